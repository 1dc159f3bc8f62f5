-- `statuses::grids::grid_index_from_address` meets its contract.
use mathlib.Core.Path.{refl}
use Rattle.statuses.proofs.StatusLaws.{status-is}
use Rattle.statuses.specs.Statuses.{index_questions}
use Rattle.statuses.proofs.grids.grid_index_from_address.Goals as goal

pub returns-clause-value : goal.returns-clause-value
returns-clause-value c = status-is (index_questions c.args.d_diag) _ _ _ refl c.grid_index_from_address.ensures c.store.ensures.status
