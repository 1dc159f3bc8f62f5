-- `averaging_walk::kernel::walk::average_points` meets its contract: at each turn the matrices of the first k points are done.
use mathlib.Core.Path.{refl, sym, ap, ◌∙◌}
use Prim.Native.Nat.{ℕ, ◌-◌, ◌+◌, ◌*◌}
use native.Mathlib.Omega.{arith}
use lib.ListN.{take, drop}
use Rattle.list_laws.proofs.FillLaws.{part_length}
use Rattle.list_laws.proofs.MatrixLaws.{made_none, made-length, made-next, made_all}
use Rattle.list_laws.proofs.ProductLaws.{row-le}
use Rattle.degenerate_sets.specs.Averages.{averaged_by, blocks_in_turn, points_by}
use Rattle.degenerate_sets.proofs.AverageLaws.{averaged-length, averaged-in-turn}
use Rattle.averaging_walk.proofs.kernel.walk.average_points.Goals as goal

pub loop-k-init : goal.loop-k-init
loop-k-init g c =
    made_none (c.args.bands * c.args.bands) (averaged_by g.E.Averaged.rule c.args.bands c.args.ids1.now c.args.ids2.now)
    (averaged-length g.E.Averaged.rule c.args.bands c.args.ids1.now c.args.ids2.now) c.args.m.now

pub loop-k-preserved : goal.loop-k-preserved
loop-k-preserved g c =
    let rule = g.E.Averaged.rule in
    let bands = c.args.bands in
    let size = bands * bands in
    let start = c.loop-k.k * size in
    let ids1 = c.args.ids1.now in
    let ids2 = c.args.ids2.now in
    let m = c.loop-k.m in
    let matrix = take (start + size - start) (drop start m) in
    let keeps = averaged-length rule bands ids1 ids2 in
    let in_rows = row-le size c.loop-k-test.true in
    let same = made-length size (averaged_by rule bands ids1 ids2) keeps c.loop-k.k c.args.m.now m c.loop-k.invariant (omega (arith, in_rows)) in
    made-next size (averaged_by rule bands ids1 ids2) keeps c.loop-k.k start c.args.m.now m c.average_matrix.new.m refl c.loop-k.invariant
    (c.average_matrix.ensures
    ∙ ap (λ (n : ℕ). blocks_in_turn rule n ids1 ids2 matrix) c.requires.ids1_len.0
    ∙ sym (averaged-in-turn rule bands ids1 ids2 matrix g.E.Averaged.past_end (g.met.E.Averaged.local bands) (part_length m start size (omega (arith, same, in_rows)))))

pub returns : goal.returns
unfolding points_by
returns g c =
    made_all (c.args.bands * c.args.bands) (averaged_by g.E.Averaged.rule c.args.bands c.args.ids1.now c.args.ids2.now)
    (averaged-length g.E.Averaged.rule c.args.bands c.args.ids1.now c.args.ids2.now) c.loop-k.k c.args.points c.args.m.now c.loop-k.m c.loop-k.invariant (omega arith) (omega arith)
