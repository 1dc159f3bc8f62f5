-- `replay_sheet::content::same_sheet` meets its contract: each list stands where the one before ends.
use Rattle.replay_sheet.proofs.ContentLaws.{sheet-same}
use Rattle.replay_sheet.proofs.content.same_sheet.Goals as goal

pub returns-clause-agrees : goal.returns-clause-agrees
returns-clause-agrees c =
    (sheet-same c.args.reader.now c.agrees_with-weights.new.self c.agrees_with-flags.new.self c.agrees_with-marks.new.self _ _ _ c.agrees_with-weights.ensures.agrees c.agrees_with-weights.ensures.next c.agrees_with-flags.ensures.agrees c.agrees_with-flags.ensures.next c.agrees_with-marks.ensures.agrees c.agrees_with-marks.ensures.next).0

pub returns-clause-next : goal.returns-clause-next
returns-clause-next c =
    (sheet-same c.args.reader.now c.agrees_with-weights.new.self c.agrees_with-flags.new.self c.agrees_with-marks.new.self _ _ _ c.agrees_with-weights.ensures.agrees c.agrees_with-weights.ensures.next c.agrees_with-flags.ensures.agrees c.agrees_with-flags.ensures.next c.agrees_with-marks.ensures.agrees c.agrees_with-marks.ensures.next).1
