-- `bzgrid::kernel::fill_many` meets its contract.
use Prim.Native.Nat.{◌*◌, ◌≤◌}
use lib.ListN.{length, take}
use lib.Signed.{mag}
use mathlib.Core.Path.{◌≡◌}
use Rattle.bzgrid.specs.Lists.{neighbours_of}
use Rattle.list_laws.specs.Lists.{at, rows}
use Rattle.bzgrid.proofs.kernel.fill_many.Given as goal

abbrev pub invariant-loop-i : goal.invariant-loop-i
invariant-loop-i l =
    (l.i ≤ length l.grid_points) × (length l.out ≡ length l.initial.out) × (take (l.i * l.size) l.out ≡ rows l.i (λ k. neighbours_of l.grid.grid l.grid.addresses.now l.grid.gp_map.now l.steps.numbers.now (mag (at l.grid_points k))))
