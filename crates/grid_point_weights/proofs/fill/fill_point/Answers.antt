-- `grid_point_weights::fill::fill_point` meets its contract.
use mathlib.Core.Path.{◌∙◌, ◌≡◌}
use native.Mathlib.Omega.{arith}
use Rattle.grid_point_weights.proofs.WeightLaws.{corners-held, weights-all}
use Rattle.grid_point_weights.specs.Calls.{tested_study}
use Rattle.grid_point_weights.proofs.fill.fill_point.Goals as goal

pub fill_band-requires : goal.fill_band-requires
fill_band-requires c =
    (c.loop-band-test.true, (rw (c.corner_points-corners.ensures, c.args.study.now.counted) (corners-held (tested_study c.args.study.now) c.args.study.now.sound c.args.gp c.loop-band.band c.loop-band-test.true), c.loop-band.invariant.1.same_length ∙ c.requires.1))

pub returns : goal.returns
returns c =
    let e : c.loop-band.band ≡ c.args.study.now.bands = omega arith in
    weights-all (tested_study c.args.study.now) c.args.study.now.sound c.args.gp c.args.iw.now c.loop-band.iw c.requires.1 (rw (c.corner_points-corners.ensures, e, c.args.study.now.counted) at c.loop-band.invariant.1)
