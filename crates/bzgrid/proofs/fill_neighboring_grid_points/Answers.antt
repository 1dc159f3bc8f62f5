-- `bzgrid::fill_neighboring_grid_points` meets its contract.
use mir.Syntax.{w64}
use mir.ValLaws.{to_z-of_z}
use Rattle.bzgrid.proofs.PointLaws.{found-one}
use Rattle.bzgrid.proofs.fill_neighboring_grid_points.Goals as goal

pub returns : goal.returns
returns c =
    found-one _ _ _ _ _ (rw (to_z-of_z w64 c.args.grid_point c.ranges.grid_point) at c.neighboring_grid_points_many.ensures)
