-- The neighbours of one grid point, and of many.
use Rattle.std.specs.Prelude.{List, ℕ, ℤ, pos, length}
use Rattle.std.specs.Int.Signed.{mag}
use Rattle.list_laws.specs.Lists.{at, tabulate, rows}
use Rattle.question_grids.specs.Grids.{triples_in}
use Rattle.bzgrid_lookup.specs.declared.BzGrid.{BzGrid}
use Rattle.bzgrid_lookup.specs.Neighbours.{neighbour_of, wanted_address}

-- the neighbours of point g, one for each step
unfoldable pub neighbours_of : BzGrid → List ℤ → List ℤ → List ℤ → ℕ → List ℤ
neighbours_of grid addresses gp-map steps g =
    tabulate (triples_in steps) (λ j. pos (neighbour_of grid addresses gp-map (wanted_address addresses steps g j)))

-- the neighbours of each of the points in turn
unfoldable pub neighbours_of_all : BzGrid → List ℤ → List ℤ → List ℤ → List ℤ → List ℤ
neighbours_of_all grid addresses gp-map steps points =
    rows (length points) (λ i. neighbours_of grid addresses gp-map steps (mag (at points i)))
