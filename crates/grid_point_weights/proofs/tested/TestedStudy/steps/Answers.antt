-- `grid_point_weights::tested::TestedStudy::steps` meets its contract.
use Rattle.question_grids.proofs.TableLaws.{table-triples}
use Rattle.grid_point_weights.proofs.tested.TestedStudy.steps.Goals as goal

pub invariant_of-result : goal.invariant_of-result
invariant_of-result c = record { tested = table-triples c.args.self.now.lent.relative_grid_address.now c.args.self.now.sound.tabled }
