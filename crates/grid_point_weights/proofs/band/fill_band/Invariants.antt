-- `grid_point_weights::band::fill_band` meets its contract.
use Prim.Native.Nat.{◌≤◌}
use lib.Ieee.{nan}
use lib.ListN.{length}
use Rattle.grid_point_weights.specs.Weights.{corner_weight}
use Rattle.list_laws.specs.Columns.{InColumn}
use Rattle.list_laws.specs.Matrix.{Replaced}
use Rattle.grid_point_weights.proofs.band.fill_band.Given as goal

abbrev pub invariant-loop-x : goal.invariant-loop-x
invariant-loop-x l =
    (l.x ≤ length l.points) × Replaced nan l.bands (InColumn l.x l.band) (λ x b. corner_weight l.corners l.rows.count l.study.lent.frequencies.now l.bands l.points l.study.lent.function x b) l.initial.iw l.iw
