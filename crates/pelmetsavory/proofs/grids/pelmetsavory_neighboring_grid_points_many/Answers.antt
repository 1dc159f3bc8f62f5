-- `pelmetsavory::grids::pelmetsavory_neighboring_grid_points_many` meets its contract.
use Rattle.pelmetsavory.proofs.CallLaws.{called-find-all}
use Rattle.pelmetsavory.proofs.grids.pelmetsavory_neighboring_grid_points_many.Goals as goal

pub returns : goal.returns
returns c =
    called-find-all _ _ _ _ _ (rw c.lent-grid.ensures at c.neighboring_grid_points_many.ensures) _ c.status_of.ensures
