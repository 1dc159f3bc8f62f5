-- `table_rules::kernel::faces::is_paired` meets its contract.
use mathlib.Core.Path.{◌≡◌, ◌∙◌, refl, ap}
use native.Mathlib.Omega.{arith}
use Rattle.list_laws.specs.Lists.{count_below}
use Rattle.table_rules.specs.Faces.{side, has_face, lies_above, lies_below, is_paired}
use Rattle.table_rules.proofs.SideLaws.{next-row}
use Rattle.table_rules.proofs.kernel.faces.is_paired.Goals as goal

pub loop-s-init : goal.loop-s-init
unfolding count_below
loop-s-init c = (refl, (refl, refl))

pub overflow_add-having : goal.overflow_add-having
overflow_add-having c =
    omega (arith, (next-row c.args.table.numbers.now c.args.a.numbers c.args.b.numbers has_face c.loop-s.s c.loop-s.having (omega arith) c.loop-s.invariant.0 c.side-side.result (c.side-side.ensures ∙ ap (λ row. side row c.args.a.numbers c.args.b.numbers) c.row.ensures) c.has_face.result c.has_face.ensures c.from-having.result c.from-having.ensures).0)

pub overflow_add-above : goal.overflow_add-above
overflow_add-above c =
    omega (arith, (next-row c.args.table.numbers.now c.args.a.numbers c.args.b.numbers lies_above c.loop-s.s c.loop-s.above (omega arith) c.loop-s.invariant.1.0 c.side-side.result (c.side-side.ensures ∙ ap (λ row. side row c.args.a.numbers c.args.b.numbers) c.row.ensures) c.lies_above.result c.lies_above.ensures c.from-above.result c.from-above.ensures).0)

pub overflow_add-below : goal.overflow_add-below
overflow_add-below c =
    omega (arith, (next-row c.args.table.numbers.now c.args.a.numbers c.args.b.numbers lies_below c.loop-s.s c.loop-s.below (omega arith) c.loop-s.invariant.1.1 c.side-side.result (c.side-side.ensures ∙ ap (λ row. side row c.args.a.numbers c.args.b.numbers) c.row.ensures) c.lies_below.result c.lies_below.ensures c.from-below.result c.from-below.ensures).0)

pub loop-s-preserved : goal.loop-s-preserved
loop-s-preserved c =
    let table = c.args.table.numbers.now in (
      (next-row table c.args.a.numbers c.args.b.numbers has_face c.loop-s.s c.loop-s.having (omega arith) c.loop-s.invariant.0 c.side-side.result (c.side-side.ensures ∙ ap (λ row. side row c.args.a.numbers c.args.b.numbers) c.row.ensures) c.has_face.result c.has_face.ensures c.from-having.result c.from-having.ensures).1,
      (
        (next-row table c.args.a.numbers c.args.b.numbers lies_above c.loop-s.s c.loop-s.above (omega arith) c.loop-s.invariant.1.0 c.side-side.result (c.side-side.ensures ∙ ap (λ row. side row c.args.a.numbers c.args.b.numbers) c.row.ensures) c.lies_above.result c.lies_above.ensures c.from-above.result c.from-above.ensures).1,
        (next-row table c.args.a.numbers c.args.b.numbers lies_below c.loop-s.s c.loop-s.below (omega arith) c.loop-s.invariant.1.1 c.side-side.result (c.side-side.ensures ∙ ap (λ row. side row c.args.a.numbers c.args.b.numbers) c.row.ensures) c.lies_below.result c.lies_below.ensures c.from-below.result c.from-below.ensures).1,
      ),
    )

pub returns : goal.returns
unfolding is_paired
returns c =
    let e : c.loop-s.s ≡ 24 = omega arith in rw (c.loop-s.invariant.0, c.loop-s.invariant.1.0, c.loop-s.invariant.1.1, e) refl
