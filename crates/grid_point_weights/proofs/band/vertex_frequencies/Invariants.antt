-- `grid_point_weights::band::vertex_frequencies` meets its contract.
use Prim.Native.Nat.{◌*◌, ◌≤◌}
use lib.Ieee.{binary64, of_bits}
use mathlib.Core.Path.{◌≡◌}
use Rattle.grid_point_weights.specs.Weights.{corner_frequency}
use Rattle.list_laws.specs.Lists.{area}
use Rattle.grid_point_weights.proofs.band.vertex_frequencies.Given as goal

abbrev pub invariant-loop-j : goal.invariant-loop-j
invariant-loop-j l =
    (l.j ≤ l.fn.study.rows.count * 4) × (l.vertices ≡ area 384 l.j (corner_frequency l.corners l.frequencies l.bands l.band) (of_bits binary64 0))
