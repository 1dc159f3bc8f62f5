-- `triplet_study::tested::TestedStudy::counted_sizes` meets its contract.
use Rattle.triplet_study.proofs.TestedLaws.{tested-counted}
use Rattle.triplet_study.proofs.tested.TestedStudy.counted_sizes.Goals as goal

pub invariant_of-result : goal.invariant_of-result
invariant_of-result c = record { counted = tested-counted c.args.self.now }
