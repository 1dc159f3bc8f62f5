-- `triplet_study::tested::TestedStudy::grid` meets its contract.
use Rattle.triplet_study.proofs.TestedLaws.{tested-grid}
use Rattle.triplet_study.proofs.tested.TestedStudy.grid.Goals as goal

pub invariant_of-result : goal.invariant_of-result
invariant_of-result c = record { sound = tested-grid c.args.self.now }
