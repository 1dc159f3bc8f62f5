-- `sheet_step::kernel::asks::ask_common` meets its contract.
use mathlib.Core.Path.{◌≡◌, ◌∙◌, ap}
use Rattle.ask.proofs.RefusalLaws.{given-is, group-refused, handed-on, refused-is}
use Rattle.triplet_study.specs.Lent.{study_of}
use Rattle.triplet_study.specs.Questions.{study_questions}
use Rattle.triplet_study.specs.Study.{sizes_of}
use Rattle.triplet_study.specs.declared.Study.{Study as LentStudy}
use Rattle.sheet_step.proofs.StepLaws.{common-no}
use Rattle.sheet_step.proofs.kernel.asks.ask_common.Goals as goal

pub returns-in_err-tested-clause-asked : goal.returns-in_err-tested-clause-asked
returns-in_err-tested-clause-asked c =
    let told : _ = rw c.in_err-tested.was at c.tested.ensures.asked in
    rw (handed-on _ c.from_residual.ensures.1) (group-refused (study_questions (study_of c.args.study)) _ _ tt tt told)

pub returns-in_err-ask_sheet-clause-asked : goal.returns-in_err-ask_sheet-clause-asked
returns-in_err-ask_sheet-clause-asked c =
    let yes : _ = rw c.in_ok-tested.was at c.tested.ensures.asked in
    let same : c.in_ok-tested.tested.study ≡ c.args.study = rw c.in_ok-tested.was at c.tested.ensures.same in
    let told : _ = rw (c.counted_sizes.ensures, c.in_err-ask_sheet.was) at c.ask_sheet.ensures in
    rw (handed-on _ c.from_residual-in_err-ask_sheet.ensures.1) (refused-is _ _ _ _ tt told (common-no (study_of c.args.study) c.args.weights c.args.flags c.args.marks.now
    (c.in_ok-tested.tested.counts ∙ ap (λ (s : LentStudy). sizes_of (study_of s)) same) (given-is _ _ tt yes).0))
