-- `triplet_piece::kernel::fill_points` meets its contract.
use Prim.Native.Nat.{◌*◌, ◌+◌, ◌<◌, ℕ}
use borrow.Author.Rules.{rules}
use lib.ListN.{length}
use mathlib.Core.Path.{◌∙◌, ◌≡◌, ap, sym}
use mir.Syntax.{w8}
use mir.Val.{SFits}
use mir.ValLaws.{to_z-of_z}
use native.Mathlib.Omega.{arith}
use Rattle.triplet_piece.proofs.LayoutLaws.{cell_in, flags-all, flags-more, flags-none, length_some, length-some-flags, row_in, weights-all, weights-more, weights-none}
use Rattle.triplet_outputs.specs.declared.Outputs.{Outputs}
use Rattle.triplet_piece.specs.Weights.{outputs_of_sorted}
use Rattle.triplet_piece.proofs.kernel.fill_points.Goals.{Start}
use Rattle.triplet_piece.proofs.kernel.fill_points.Goals as goal

-- the outputs at a point
abbrev outs : Start → ℕ → Outputs
outs s =
    outputs_of_sorted s.args.study.now.sizes s.args.study.now.frequency_points.now s.args.channels.now

pub loop-x-init : goal.loop-x-init
loop-x-init c =
    (weights-none c.args.study.now.sizes (c.args.t * c.args.study.now.sizes.pairs + c.args.pair) (outs (goal.at.loop-x-init c).Start) c.args.weights.now, flags-none c.args.study.now.sizes (c.args.t * c.args.study.now.sizes.pairs + c.args.pair) (outs (goal.at.loop-x-init c).Start) c.args.flags.now)

pub put_weights-requires : goal.put_weights-requires
put_weights-requires c =
    let hx : c.loop-x.x < c.args.study.now.sizes.points = omega arith in
    let ci : _ = cell_in c.args.study.now.sizes c.args.study.now.counted c.args.t c.args.pair c.loop-x.x c.requires.on_study.0 c.requires.on_study.1 hx in
    let ri : _ = row_in c.args.study.now.sizes c.args.study.now.counted c.args.t c.args.pair c.loop-x.x c.requires.on_study.0 c.requires.on_study.1 hx in
    let lw : length c.loop-x.weights ≡ length c.args.weights.now = ap length c.loop-x.invariant.0 ∙ length_some c.args.study.now.sizes (c.args.t * c.args.study.now.sizes.pairs + c.args.pair) (outs (goal.at.put_weights-requires c).Start) c.loop-x.x c.args.weights.now in
    (ci, lw ∙ c.requires.fits.weighed)

pub bounds-flags-cell : goal.bounds-flags-cell
bounds-flags-cell c =
    let hx : c.loop-x.x < c.args.study.now.sizes.points = omega (arith, c.loop-x-test.true) in
    let ci : _ = cell_in c.args.study.now.sizes c.args.study.now.counted c.args.t c.args.pair c.loop-x.x c.requires.on_study.0 c.requires.on_study.1 hx in
    let ri : _ = row_in c.args.study.now.sizes c.args.study.now.counted c.args.t c.args.pair c.loop-x.x c.requires.on_study.0 c.requires.on_study.1 hx in
    let lf : length c.loop-x.flags ≡ length c.args.flags.now = ap length c.loop-x.invariant.1 ∙ length-some-flags c.args.study.now.sizes (c.args.t * c.args.study.now.sizes.pairs + c.args.pair) (outs (goal.at.bounds-flags-cell c).Start) c.loop-x.x c.args.flags.now in
    omega (arith, c.requires.fits.pointed, c.requires.fits.weighed, c.requires.fits.flagged, c.args.study.now.counted.cells_are, c.well_formed)

pub loop-x-preserved : goal.loop-x-preserved
loop-x-preserved c =
    let hx : c.loop-x.x < c.args.study.now.sizes.points = omega (arith, c.loop-x-test.true) in
    (c.put_weights.ensures ∙ rw c.loop-x.invariant.0 (weights-more c.args.study.now.sizes (outs (goal.at.loop-x-preserved c).Start) c.args.t c.args.pair c.loop-x.x c.requires.on_study.1 hx c.args.weights.now c.outputs_at-o.result (sym c.outputs_at-o.ensures)), rw c.loop-x.invariant.1 (flags-more c.args.study.now.sizes (outs (goal.at.loop-x-preserved c).Start) c.args.t c.args.pair c.loop-x.x c.requires.on_study.1 hx c.args.flags.now _ (sym ((let h : SFits w8 c.outputs_at-o.result.flag = search rules in to_z-of_z w8 c.outputs_at-o.result.flag h) ∙ ap (λ (o : Outputs). o.flag) c.outputs_at-o.ensures))))

pub returns : goal.returns
returns c =
    let e : c.loop-x.x ≡ c.args.study.now.sizes.points = omega arith in
    let q : ℕ = c.args.t * c.args.study.now.sizes.pairs + c.args.pair in
    record {
      weights-are = c.loop-x.invariant.0 ∙ rw e (weights-all c.args.study.now.sizes q (outs (goal.at.returns c).Start) c.args.weights.now c.args.study.now.counted.points-some);
      flags-are = c.loop-x.invariant.1 ∙ rw e (flags-all c.args.study.now.sizes q (outs (goal.at.returns c).Start) c.args.flags.now c.args.study.now.counted.points-some);
    }
