-- `triplet_study::kernel::ask_study` meets its contract.
use Rattle.ask.proofs.RefusalLaws.{handed-on, refused-is, refused-not}
use Rattle.triplet_study.proofs.StudyLaws.{grid-first-no}
use Rattle.triplet_study.specs.Lent.{study_of}
use Rattle.triplet_study.specs.Study.{Study}
use mathlib.Core.Path.{refl, sym}
use Rattle.triplet_study.proofs.kernel.ask_study.Goals as goal

pub returns-in_err-ask_grid : goal.returns-in_err-ask_grid
returns-in_err-ask_grid c =
    let a : Study = study_of c.args.study in
    let g : _ = rw (c.grid.ensures, c.in_err-ask_grid.was) at c.ask_grid.ensures in
    rw (handed-on _ c.from_residual.ensures.1) (refused-is _ _ _ _ tt g (sym (grid-first-no a _ refl (refused-not _ _ tt g))))
