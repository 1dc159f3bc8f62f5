-- `grid_point_weights::tested::TestedStudy::grid` meets its contract.
use Rattle.grid_point_weights.proofs.tested.TestedStudy.grid.Goals as goal

pub invariant_of-result : goal.invariant_of-result
invariant_of-result c = record { sound = c.args.self.now.sound.sound-grid }
