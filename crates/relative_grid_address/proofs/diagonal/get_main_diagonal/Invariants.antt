-- The loop keeps the least of the lengths passed and its number, the first on a tie.
use mathlib.Core.Path.{◌≡◌}
use Prim.Native.Nat.{◌-◌, ◌≤◌}
use Rattle.relative_grid_address.specs.Diagonal.{length_of, least_up_to}
use Rattle.relative_grid_address.proofs.diagonal.get_main_diagonal.Given as goal

abbrev pub invariant-loop-i : goal.invariant-loop-i
invariant-loop-i l =
    (1 ≤ l.i) × (l.i ≤ 4) × (l.shortest ≡ least_up_to (length_of l.rec_lattice) (l.i - 1)) × (l.min_length ≡ length_of l.rec_lattice l.shortest)
