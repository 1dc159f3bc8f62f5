-- `grid_point_weights::band::fill_band` meets its contract.
use Prim.Native.Nat.{◌*◌, ◌+◌, ◌<◌}
use lib.Ieee.{Float, nan}
use lib.ListN.{get_or, length}
use mathlib.Core.List.{List}
use mathlib.Core.Path.{◌∙◌, ap}
use native.Mathlib.Omega.{arith}
use Rattle.grid_point_weights.specs.Weights.{corner_weight}
use Rattle.list_laws.proofs.ColumnLaws.{column-next}
use Rattle.list_laws.proofs.ProductLaws.{digit_lt}
use Rattle.tetrahedron_method.proofs.SortedLaws.{weight_is}
use Rattle.tetrahedron_method.specs.Weight.{weight_of}
use Rattle.grid_point_weights.proofs.band.fill_band.Goals as goal

pub loop-x-preserved : goal.loop-x-preserved
unfolding corner_weight
loop-x-preserved c =
    let room : c.loop-x.x * c.args.study.now.bands + c.args.band < length c.loop-x.iw = omega (arith, c.loop-x.invariant.1.same_length, c.requires.1.1, digit_lt c.loop-x.x (length c.args.study.now.lent.frequency_points.now) c.args.band c.args.study.now.bands c.loop-x-test.true c.requires.0) in
    (omega arith, column-next nan c.args.study.now.bands c.args.band (λ x b. corner_weight c.args.corners.now c.args.study.now.rows.count c.args.study.now.lent.frequencies.now c.args.study.now.bands c.args.study.now.lent.frequency_points.now c.args.study.now.lent.function x b) c.args.iw.now c.loop-x.x c.loop-x.iw _ c.requires.0 room (c.sorted_weight-w.ensures ∙ weight_is _ _ _ _ _ _ c.sort_rows.ensures.sorted ∙ ap (λ (a : List Float). weight_of c.args.study.now.lent.function (get_or c.args.study.now.lent.frequency_points.now c.loop-x.x nan) a c.args.study.now.rows.count) c.vertex_frequencies-vertices.ensures) c.loop-x.invariant.1)
