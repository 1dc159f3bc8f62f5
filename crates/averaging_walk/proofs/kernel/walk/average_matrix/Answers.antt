-- `averaging_walk::kernel::walk::average_matrix` meets its contract.
use mathlib.Core.Path.{◌≡◌, sym, ap, ◌∙◌}
use mathlib.Core.List.{map}
use Prim.Native.Nat.{ℕ}
use native.Mathlib.Omega.{arith}
use lib.ListN.{length}
use Rattle.degenerate_sets.specs.declared.kernel.sets.Sets.{Sets}
use Rattle.degenerate_sets.specs.Sets.{starts_at, end_of}
use Rattle.degenerate_sets.specs.Blocks.{degenerate_set, is_first, sets_below, sets_of, product, products}
use Rattle.degenerate_sets.specs.Turns.{in_turn}
use Rattle.degenerate_sets.proofs.SetLaws.{next-bounds, next-first}
use Rattle.degenerate_sets.proofs.WalkLaws.{next-of, rows_none, rows-turn}
use Rattle.averaging_walk.proofs.kernel.walk.average_matrix.Goals as goal

pub loop-rows-init : goal.loop-rows-init
loop-rows-init g c =
    let walk = c.into_iter-rows-iterator.result in
    let n = length c.args.ids1.now in
    let p = starts_at c.args.ids1.now in
    let rule = g.E.Averaged.rule n in
    let columns = sets_of n c.args.ids2.now in
    let same = c.into_iter-rows-iterator.ensures.into_iter_gives in
    let zero : walk.start ≡ 0 = ap (λ (s : Sets). s.start) same ∙ c.sets_of-rows-items.ensures.1 in (
      ap (λ (s : Sets). s.ids.now) same ∙ c.sets_of-rows-items.ensures.0,
      omega arith,
      λ h. ap (is_first p) zero,
      rows_none n rule p columns c.args.m.now ∙ ap (λ (k : ℕ). in_turn n rule (products (sets_below p n k) columns) c.args.m.now) (sym zero),
    )

pub average_rows-requires-clause-rows_in : goal.average_rows-requires-clause-rows_in
average_rows-requires-clause-rows_in g c =
    let step = next-of c.args.ids1.now c.loop-rows.rows-iterator c.next.new.self c.in-Some.rows c.loop-rows.invariant.0 c.in-Some.ensures.steps in
    omega (arith, step, next-bounds (starts_at c.args.ids1.now) step.0 step.2)

pub loop-rows-preserved : goal.loop-rows-preserved
loop-rows-preserved g c =
    let walk = c.loop-rows.rows-iterator in
    let next = c.next.new.self in
    let ids1 = c.args.ids1.now in
    let ids2 = c.args.ids2.now in
    let n = length ids1 in
    let p = starts_at ids1 in
    let rule = g.E.Averaged.rule in
    let before = c.loop-rows.invariant in
    let step = next-of ids1 walk next c.in-Some.rows before.0 c.in-Some.ensures.steps in
    let end : next.start ≡ end_of p n walk.start = step.3 ∙ step.2 in
    let same = c.requires.ids_len in (
      step.4,
      (next-bounds p step.0 end).1,
      next-first p step.0 end,
      rows-turn n (rule n) p (sets_of n ids2) walk.start next.start c.args.m.now c.loop-rows.m c.average_rows.new.m step.0 (before.2 step.0) end before.3
          (c.average_rows.ensures ∙ (λ i. in_turn (same i) (rule (same i)) (map (product (degenerate_set (step.1 i) (sym step.3 i))) (sets_of (same i) ids2)) c.loop-rows.m)),
    )
