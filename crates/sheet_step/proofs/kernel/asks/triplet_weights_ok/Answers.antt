-- `sheet_step::kernel::asks::triplet_weights_ok` meets its contract.
use Prim.Native.Nat.{◌*◌, ◌+◌, ◌-◌, ◌≤◌, ℕ}
use lib.ListN.{drop, take}
use mathlib.Core.Path.{◌∙◌, ◌≡◌, ap}
use native.Mathlib.Omega.{arith}
use Rattle.list_laws.proofs.BelowLaws.{below_end, below_next, below_none}
use Rattle.list_laws.specs.Lists.{part}
use Rattle.question_values.specs.Averages.{are_weights}
use Rattle.sheet_step.proofs.CountLaws.{channel-place, entries-few, size_few, triplet-place}
use Rattle.sheet_step.specs.Steps.{are_triplet_weights}
use Rattle.sheet_step.proofs.kernel.asks.triplet_weights_ok.Goals.{In-loop-c}
use Rattle.sheet_step.proofs.kernel.asks.triplet_weights_ok.Goals as goal

-- the entries of the triplet in a channel lie in the weights, which are few
lies : (c : In-loop-c) → let z = c.args.counts.sizes in (c.loop-c.c * z.cells + z.cells ≤ z.channels * z.cells) × (c.loop-c.c * z.cells + c.args.t * (z.points * z.pairs) + z.points * z.pairs ≤ z.channels * z.cells) × (z.channels * z.cells ≤ 824633720832)
lies c =
    let h : _ = c.args.counts.counted in
    let p : _ = channel-place c.args.counts.sizes h c.args.t c.loop-c.c c.requires.0 (omega arith) in
    (p.0, p.1, entries-few c.args.counts.sizes h)

pub overflow_mul-size : goal.overflow_mul-size
overflow_mul-size c = omega (arith, size_few c.args.counts.sizes c.args.counts.counted)

pub overflow_mul-base : goal.overflow_mul-base
overflow_mul-base c =
    let h : _ = c.args.counts.counted in
    omega (arith, triplet-place c.args.counts.sizes h c.args.t c.requires.0, h.cells-few)

pub overflow_add-start : goal.overflow_add-start
overflow_add-start c = omega (arith, lies (goal.at.overflow_add-start c).In-loop-c)

pub overflow_add-end : goal.overflow_add-end
overflow_add-end c = omega (arith, lies (goal.at.overflow_add-end c).In-loop-c)

pub offset_bounds-weights-start : goal.offset_bounds-weights-start
offset_bounds-weights-start c = omega (arith, lies (goal.at.offset_bounds-weights-start c).In-loop-c)

pub loop-c-init : goal.loop-c-init
loop-c-init c = below_none _

pub slice_bounds-weights_ok-end : goal.slice_bounds-weights_ok-end
slice_bounds-weights_ok-end c = omega (arith, lies (goal.at.slice_bounds-weights_ok-end c).In-loop-c, c.requires.1)

pub loop-c-preserved : goal.loop-c-preserved
loop-c-preserved c =
    let a : ℕ = c.loop-c.c * c.args.counts.sizes.cells + c.args.t * (c.args.counts.sizes.points * c.args.counts.sizes.pairs) in
    let s : ℕ = c.args.counts.sizes.points * c.args.counts.sizes.pairs in
    let e : a + s - a ≡ s = omega arith in
    below_next c.loop-c.c (λ k. are_weights (part (k * c.args.counts.sizes.cells + c.args.t * (c.args.counts.sizes.points * c.args.counts.sizes.pairs)) (c.args.counts.sizes.points * c.args.counts.sizes.pairs) c.args.weights.now)) c.loop-c.invariant (c.weights_ok-ok.ensures ∙ ap (λ (k : ℕ). are_weights (take k (drop a c.args.weights.now))) e)

pub returns : goal.returns
unfolding are_triplet_weights
returns c =
    below_end _ c.loop-c.invariant (omega arith)
