-- `grid_point_weights::fill::fill_point` meets its contract.
use Prim.Native.Nat.{◌≤◌}
use lib.Ieee.{nan}
use lib.ListN.{length}
use Rattle.grid_point_weights.specs.Weights.{corner_weight}
use Rattle.list_laws.specs.Columns.{BeforeColumn}
use Rattle.list_laws.specs.Matrix.{Replaced}
use Rattle.grid_point_weights.proofs.fill.fill_point.Given as goal

abbrev pub invariant-loop-band : goal.invariant-loop-band
invariant-loop-band l =
    (l.band ≤ l.bands) × Replaced nan l.bands (BeforeColumn (length l.study.lent.frequency_points.now) l.band) (λ x b. corner_weight l.corners l.study.rows.count l.study.lent.frequencies.now l.bands l.study.lent.frequency_points.now l.study.lent.function x b) l.initial.iw l.iw
