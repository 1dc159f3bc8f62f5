-- `pelmetsavory::grids::pelmetsavory_fill_neighboring_grid_points` meets its contract.
use mir.Syntax.{w64}
use mir.ValLaws.{to_z-of_z}
use Rattle.pelmetsavory.proofs.CallLaws.{called-find}
use Rattle.pelmetsavory.proofs.grids.pelmetsavory_fill_neighboring_grid_points.Goals as goal

pub returns : goal.returns
returns c =
    called-find _ _ _ _ _ (rw (c.lent-grid.ensures, to_z-of_z w64 c.args.grid_point c.ranges.grid_point) at c.fill_neighboring_grid_points.ensures) _ c.status_of.ensures
