-- `sheet_carry::carry_on` meets its contract.
use mathlib.Core.Path.{◌≡◌}
use Rattle.ask.proofs.RefusalLaws.{given-is, handed-on}
use Rattle.sheet_step.proofs.EntryLaws.{tested-yes}
use Rattle.sheet_step.proofs.StepLaws.{common-refused}
use Rattle.triplet_study.specs.Lent.{study_of}
use Rattle.sheet_step.specs.Lent.{sheet_of}
use Rattle.sheet_step.specs.Steps.{Sheet, carry}
use Rattle.sheet_carry.proofs.carry_on.Goals.{Start}
use Rattle.sheet_carry.proofs.carry_on.Goals as goal

-- the sheet that the call takes
abbrev start : Start → Sheet
start s = sheet_of s.args.sheet.now s.args.tally.runs

pub returns-in_err-tested-clause-did : goal.returns-in_err-tested-clause-did
returns-in_err-tested-clause-did c =
    let told : _ = rw (c.marks.ensures, c.in_err-tested.was) at c.ask_common.ensures.asked in
    rw (handed-on _ c.from_residual.ensures.1) (common-refused (study_of c.args.study) (start (goal.at.returns-in_err-tested-clause-did c).Start) (carry c.args.worker) _ told)

pub carry_tested-requires : goal.carry_tested-requires
carry_tested-requires c =
    let same : c.in_ok-tested.tested.study ≡ c.args.study = rw c.in_ok-tested.was at c.ask_common.ensures.same in
    let told : _ = rw (c.marks.ensures, c.in_ok-tested.was) at c.ask_common.ensures.asked in
    let yes : _ = tested-yes c.in_ok-tested.tested same (start (goal.at.carry_tested-requires c).Start) (given-is _ _ tt told).0 in
    record { common = yes }
