-- `triplet_study::Study::tested` meets its contract.
use Rattle.ask.proofs.RefusalLaws.{given-is}
use Rattle.triplet_study.proofs.StudyLaws.{tested}
use Rattle.triplet_study.specs.Lent.{study_of}
use Rattle.triplet_study.proofs.Study.tested.Goals as goal

pub sizes_of_passed-sizes-requires : goal.sizes_of_passed-sizes-requires
sizes_of_passed-sizes-requires c =
    let told : _ = rw c.in_ok-ask_study.was at c.ask_study.ensures in
    tested (study_of c.args.self) (given-is _ _ tt told).0

pub invariant_of-result-clause-told : goal.invariant_of-result-clause-told
invariant_of-result-clause-told c =
    let told : _ = rw c.in_ok-ask_study.was at c.ask_study.ensures in
    tested (study_of c.args.self) (given-is _ _ tt told).0
