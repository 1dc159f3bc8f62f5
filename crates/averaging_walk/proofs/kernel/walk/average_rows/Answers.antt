-- `averaging_walk::kernel::walk::average_rows` meets its contract.
use mathlib.Core.Path.{◌≡◌, sym, ap, ◌∙◌}
use mathlib.Core.List.{map}
use Prim.Native.Nat.{ℕ}
use native.Mathlib.Omega.{arith}
use borrow.Author.Rules.{rules}
use lib.ListN.{length}
use Rattle.list_laws.specs.Matrix.{block}
use Rattle.degenerate_sets.specs.declared.kernel.sets.Sets.{Sets}
use Rattle.degenerate_sets.specs.Sets.{starts_at, end_of}
use Rattle.degenerate_sets.specs.Blocks.{degenerate_set, is_first, sets_below, product}
use Rattle.degenerate_sets.specs.Turns.{on_block, in_turn}
use Rattle.degenerate_sets.proofs.SetLaws.{next-bounds, next-first}
use Rattle.degenerate_sets.proofs.WalkLaws.{next-of, columns-none, columns-turn}
use Rattle.averaging_walk.proofs.kernel.walk.average_rows.Goals as goal

pub loop-columns-init : goal.loop-columns-init
loop-columns-init g c =
    let walk = c.into_iter-columns-iterator.result in
    let n = length c.args.ids2.now in
    let q = starts_at c.args.ids2.now in
    let rule = g.E.Averaged.rule n in
    let s = degenerate_set c.args.rows.now.start c.args.rows.now.end in
    let same = c.into_iter-columns-iterator.ensures.into_iter_gives in
    let zero : walk.start ≡ 0 = ap (λ (s : Sets). s.start) same ∙ c.sets_of-columns-items.ensures.1 in (
      ap (λ (s : Sets). s.ids.now) same ∙ c.sets_of-columns-items.ensures.0,
      omega arith,
      λ h. ap (is_first q) zero,
      columns-none n rule q s c.args.m.now ∙ ap (λ (k : ℕ). in_turn n rule (map (product s) (sets_below q n k)) c.args.m.now) (sym zero),
    )

pub invariant_of-block : goal.invariant_of-block
invariant_of-block g c =
    let step = next-of c.args.ids2.now c.loop-columns.columns-iterator c.next.new.self c.in-Some.columns c.loop-columns.invariant.0 c.in-Some.ensures.steps in
    record {
      square = (c.loop-columns.auto.m ∙ c.requires.m_len.0, c.requires.m_len.1);
      rows = c.requires.rows_in;
      columns = omega (arith, step, next-bounds (starts_at c.args.ids2.now) step.0 step.2);
    }

pub loop-columns-preserved : goal.loop-columns-preserved
loop-columns-preserved g c =
    let walk = c.loop-columns.columns-iterator in
    let next = c.next.new.self in
    let n = length c.args.ids2.now in
    let q = starts_at c.args.ids2.now in
    let rule = g.E.Averaged.rule n in
    let top = c.args.rows.now.start in
    let bottom = c.args.rows.now.end in
    let before = c.loop-columns.invariant in
    let step = next-of c.args.ids2.now walk next c.in-Some.columns before.0 c.in-Some.ensures.steps in
    let end : next.start ≡ end_of q n walk.start = step.3 ∙ step.2 in
    let turn : c.average.new.self.matrix.now ≡ in_turn n rule (map (product (degenerate_set top bottom)) (sets_below q n next.start)) c.args.m.now =
    columns-turn n rule q (degenerate_set top bottom) walk.start next.start c.args.m.now c.loop-columns.m c.average.new.self.matrix.now step.0 (before.2 step.0) end before.3
    (c.average.ensures.content ∙ (λ i. on_block n rule c.loop-columns.m (block top bottom (step.1 i) (sym step.3 i)))) in (
      step.4,
      (next-bounds q step.0 end).1,
      next-first q step.0 end,
      search (rules, turn, c.average.ensures.place.matrix),
    )
