-- `triplet_corners::kernel::fill_corner_numbers` meets its contract.
use Prim.Native.Nat.{ℕ}
use lib.IntN.{ℤ}
use mathlib.Core.List.{List}
use mathlib.Core.Path.{◌≡◌}
use Rattle.bzgrid_lookup.specs.Neighbours.{neighbour_of, wanted_address}
use Rattle.list_laws.specs.Lists.{area}
use Rattle.bzgrid_lookup.specs.declared.BzGrid.{BzGrid}
use Rattle.triplet_corners.proofs.kernel.fill_corner_numbers.Given as goal

abbrev pub entry : BzGrid → List ℤ → List ℤ → List ℤ → ℕ → ℕ → ℕ
entry grid addresses gp-map steps g j = neighbour_of grid addresses gp-map (wanted_address addresses steps g j)

abbrev pub invariant-loop-j : goal.invariant-loop-j
invariant-loop-j l =
    l.a ≡ area 384 l.j (entry l.grid.grid l.grid.addresses.now l.grid.gp_map.now l.steps.triples.numbers.now l.g) 0
