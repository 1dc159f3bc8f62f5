-- `grid_point_weights::fill::fill_all` meets its contract.
use Prim.Native.Nat.{◌*◌, ◌≤◌}
use lib.ListN.{length, take}
use lib.Signed.{mag}
use mathlib.Core.Path.{◌≡◌}
use Rattle.grid_point_weights.specs.Calls.{tested_study}
use Rattle.grid_point_weights.specs.Weights.{weights_of}
use Rattle.list_laws.specs.Lists.{at, rows}
use Rattle.grid_point_weights.proofs.fill.fill_all.Given as goal

abbrev pub invariant-loop-i : goal.invariant-loop-i
invariant-loop-i l =
    (l.i ≤ length l.grid_points) × (length l.iw ≡ length l.initial.iw) × (take (l.i * l.size) l.iw ≡ rows l.i (λ i. weights_of (tested_study l.study) (mag (at l.grid_points i))))
