-- `sheet_run::run_piece` meets its contract.
use mathlib.Core.Path.{◌≡◌}
use mir.Syntax.{w64}
use mir.ValLaws.{to_z-of_z}
use Rattle.ask.proofs.RefusalLaws.{given-is, handed-on}
use Rattle.sheet_step.proofs.EntryLaws.{tested-did, tested-yes}
use Rattle.sheet_step.proofs.StepLaws.{common-refused}
use Rattle.triplet_study.specs.Lent.{study_of}
use Rattle.sheet_step.specs.Lent.{sheet_of}
use Rattle.sheet_step.specs.Steps.{Sheet, run}
use Rattle.sheet_turn.specs.Turns.{common_no}
use Rattle.sheet_turn.proofs.TurnLaws.{long-yes, run-no}
use Rattle.sheet_run.proofs.run_piece.Goals.{In_ok-tested, Start}
use Rattle.sheet_run.proofs.run_piece.Goals as goal

-- the sheet that the call takes
abbrev start : Start → Sheet
start s = sheet_of s.args.sheet.now s.args.tally.runs

-- the study was tested
same : (c : In_ok-tested) → c.in_ok-tested.tested.study ≡ c.args.study
same c = rw c.in_ok-tested.was at c.ask_common.ensures.same

-- 3 to 13 said yes
yes : (c : In_ok-tested) → common_no (study_of c.in_ok-tested.tested.study) (start (goal.at.In_ok-tested c).Start) ≡ 0
yes c =
    let told : _ = rw (c.marks.ensures, c.in_ok-tested.was) at c.ask_common.ensures.asked in
    tested-yes c.in_ok-tested.tested (same c) (start (goal.at.In_ok-tested c).Start) (given-is _ _ tt told).0

pub returns-in_err-tested-clause-did : goal.returns-in_err-tested-clause-did
returns-in_err-tested-clause-did c =
    let told : _ = rw (c.marks.ensures, c.in_err-tested.was) at c.ask_common.ensures.asked in
    rw (handed-on _ c.from_residual.ensures.1) (common-refused (study_of c.args.study) (start (goal.at.returns-in_err-tested-clause-did c).Start) (run c.args.worker c.args.piece.triplet c.args.piece.b1 c.args.piece.b2) _ told)

pub ask_run-requires : goal.ask_run-requires
ask_run-requires c =
    let asked : In_ok-tested = (goal.at.ask_run-requires c).In_ok-tested in
    rw (c.marks-2.ensures, c.counted_sizes.ensures) (long-yes (study_of c.in_ok-tested.tested.study) (start (goal.at.ask_run-requires c).Start) (yes asked) c.in_ok-tested.tested.counts).1.1

pub returns-in_err-ask_run-clause-did : goal.returns-in_err-ask_run-clause-did
returns-in_err-ask_run-clause-did c =
    let asked : In_ok-tested = (goal.at.returns-in_err-ask_run-clause-did c).In_ok-tested in
    let own : _ = rw (to_z-of_z w64 c.args.worker c.ranges.worker, c.marks-2.ensures, c.counted_sizes.ensures, c.in_err-ask_run.was) at c.ask_run.ensures in
    rw (handed-on _ c.from_residual-in_err-ask_run.ensures.1) (tested-did c.in_ok-tested.tested (same asked) (start (goal.at.returns-in_err-ask_run-clause-did c).Start) (run-no (study_of c.in_ok-tested.tested.study) (start (goal.at.returns-in_err-ask_run-clause-did c).Start) (yes asked) c.in_ok-tested.tested.counts c.args.worker c.args.piece.triplet c.args.piece.b1 c.args.piece.b2 _ own))

pub run_tested-requires-clause-common : goal.run_tested-requires-clause-common
run_tested-requires-clause-common c =
    let asked : In_ok-tested = (goal.at.run_tested-requires-clause-common c).In_ok-tested in
    yes asked

pub run_tested-requires-clause-own : goal.run_tested-requires-clause-own
run_tested-requires-clause-own c =
    let own : _ = rw (c.marks-2.ensures, c.counted_sizes.ensures, c.in_ok-ask_run.was) at c.ask_run.ensures in
    (given-is _ _ tt own).0
