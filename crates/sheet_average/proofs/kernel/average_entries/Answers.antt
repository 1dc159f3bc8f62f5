-- `sheet_average::kernel::average_entries` meets its contract.
use Prim.Native.Nat.{◌*◌, ◌+◌, ◌≤◌}
use lib.ListN.{length}
use mathlib.Core.Path.{◌∙◌}
use native.Mathlib.Omega.{arith}
use borrow.Author.Rules.{rules, scaled_fits≤}
use Rattle.list_laws.proofs.GroupLaws.{groups_none}
use Rattle.degenerate_sets.specs.Averages.{averaged_by}
use Rattle.sheet_average.proofs.AverageLaws.{channel-place, entries-few, channel-back, channel-turn, channels-all}
use Rattle.sheet_average.proofs.kernel.average_entries.Goals as goal

pub offset_bounds-entries-start : goal.offset_bounds-entries-start
offset_bounds-entries-start g c =
    let z = c.args.by.counts.sizes in
    let p : _ = channel-place z c.args.by.counts.counted c.args.channels c.args.by.triplet c.loop-c.c c.args.by.on_sheet.0 (omega arith) in
    let le : c.loop-c.c * z.cells + c.args.by.triplet * (z.points * z.pairs) ≤ length c.args.entries.now = omega (arith, p, c.requires.lengths) in
    scaled_fits≤ _ (length c.args.entries.now) _ le (search rules)

pub slice_bounds-average_points-end : goal.slice_bounds-average_points-end
slice_bounds-average_points-end g c =
    let h = c.args.by.counts.counted in
    omega (arith, channel-place c.args.by.counts.sizes h c.args.channels c.args.by.triplet c.loop-c.c c.args.by.on_sheet.0 (omega arith), entries-few c.args.by.counts.sizes h c.args.channels c.requires.few, c.requires.lengths)

pub loop-c-init : goal.loop-c-init
loop-c-init g c =
    let z = c.args.by.counts.sizes in
    let h = c.args.by.counts.counted in
    groups_none g.E.Averaged.past_end z.points z.pairs (averaged_by g.E.Averaged.rule z.bands1 c.args.by.degenerate_ids1.now c.args.by.degenerate_ids2.now) z.triplets c.args.by.triplet h.pairs-some c.args.by.on_sheet.0 c.args.entries.now

pub loop-c-preserved : goal.loop-c-preserved
loop-c-preserved g c =
    let d = g.E.Averaged.past_end in
    let rule = g.E.Averaged.rule in
    let z = c.args.by.counts.sizes in
    let h = c.args.by.counts.counted in
    let t = c.args.by.triplet in
    let n = c.loop-c.c in
    let ids1 = c.args.by.degenerate_ids1.now in
    let ids2 = c.args.by.degenerate_ids2.now in
    let p : _ = channel-place z h c.args.channels t n c.args.by.on_sheet.0 (omega arith) in
    let f : n * z.cells + t * (z.points * z.pairs) + z.points * z.pairs ≤ length c.loop-c.entries = omega (arith, p, c.requires.lengths) in
    channel-back d rule z h ids1 ids2 c.args.by.on_sheet.1 t n c.loop-c.entries _ c.average_points.ensures f
    ∙ channel-turn d rule z h ids1 ids2 c.args.channels t n c.args.entries.now c.loop-c.entries c.args.by.on_sheet.0 c.requires.lengths c.loop-c.invariant

pub returns : goal.returns
returns g c =
    c.loop-c.invariant
    ∙ channels-all g.E.Averaged.past_end g.E.Averaged.rule c.args.by.counts.sizes c.args.by.counts.counted c.args.by.degenerate_ids1.now c.args.by.degenerate_ids2.now c.args.channels c.args.by.triplet c.loop-c.c c.args.entries.now (omega arith) c.args.by.on_sheet.0 c.requires.lengths
