-- `grid_point_weights::corners::corner_points` meets its contract.
use Prim.Native.Nat.{◌/◌, ◌≤◌}
use lib.ListN.{length}
use mathlib.Core.Path.{◌≡◌}
use Rattle.grid_point_weights.specs.Calls.{tested_study}
use Rattle.grid_point_weights.specs.Weights.{corner_of}
use Rattle.list_laws.specs.Lists.{area}
use Rattle.grid_point_weights.proofs.corners.corner_points.Given as goal

abbrev pub invariant-loop-j : goal.invariant-loop-j
invariant-loop-j l =
    let t = tested_study l.fn.study in
    (l.j ≤ length l.steps.numbers.now / 3) × (l.corners ≡ area 384 l.j (corner_of t.grid t.addresses t.gp-map t.table t.irreducible l.gp) 0)
