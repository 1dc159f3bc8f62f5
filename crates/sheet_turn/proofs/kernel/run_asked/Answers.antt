-- `sheet_turn::kernel::run_asked` meets its contract.
use Rattle.ask.proofs.RefusalLaws.{handed-on}
use mir.Syntax.{w64}
use mir.ValLaws.{to_z-of_z}
use Rattle.sheet_fill.specs.Kept.{study_in}
use Rattle.sheet_step.specs.Lent.{sheet_of}
use Rattle.sheet_step.specs.Steps.{Sheet}
use Rattle.sheet_turn.proofs.TurnLaws.{long-yes, run-no}
use Rattle.sheet_turn.proofs.kernel.run_asked.Goals.{Start}
use Rattle.sheet_turn.proofs.kernel.run_asked.Goals as goal

-- what the call takes
abbrev start : Start → Sheet
start s = sheet_of s.args.sheet.now s.args.tally.runs

pub ask_run-requires : goal.ask_run-requires
ask_run-requires c =
    rw (c.marks.ensures, c.counted_sizes.ensures) (long-yes (study_in c.args.work.now.prepared) (start (goal.at.ask_run-requires c).Start) c.requires.common c.args.work.now.prepared.tested.counts).1.1

pub returns-in_err-ask_run-clause-did : goal.returns-in_err-ask_run-clause-did
returns-in_err-ask_run-clause-did c =
    let told : _ = rw (to_z-of_z w64 c.args.worker c.ranges.worker, c.marks.ensures, c.counted_sizes.ensures, c.in_err-ask_run.was) at c.ask_run.ensures in
    rw (handed-on _ c.from_residual.ensures.1) (run-no (study_in c.args.work.now.prepared) (start (goal.at.returns-in_err-ask_run-clause-did c).Start) c.requires.common c.args.work.now.prepared.tested.counts c.args.worker c.args.piece.triplet c.args.piece.b1 c.args.piece.b2 _ told)
