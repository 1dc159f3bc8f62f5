-- `table_rules::kernel::cones::cones_ok` meets its contract.
use mathlib.Core.Path.{◌≡◌, ◌∙◌, refl, sym, ap}
use mathlib.Core.List.{[]}
use native.Mathlib.Omega.{arith}
use lib.ListN.{get_or}
use Rattle.list_laws.specs.Lists.{count_below}
use Rattle.table_rules.specs.Rows.{rows_of}
use Rattle.table_rules.specs.Cones.{is_inside, is_in_one}
use Rattle.table_rules.proofs.RowLaws.{row-is}
use Rattle.list_laws.proofs.CountedLaws.{counted_next}
use Rattle.table_rules.proofs.kernel.cones.cones_ok.Goals as goal

pub loop-r-init : goal.loop-r-init
unfolding count_below
loop-r-init c = refl

pub overflow_add-inside : goal.overflow_add-inside
overflow_add-inside c =
    let table = c.args.table.numbers.now in
    omega (arith, (counted_next c.loop-r.r c.loop-r.inside (λ r. is_inside (get_or (rows_of table) r [])) c.is_inside.result c.loop-r.invariant c.from-inside.result c.from-inside.ensures (c.is_inside.ensures ∙ ap is_inside (c.row.ensures ∙ sym (row-is table c.loop-r.r (omega arith))))).0)

pub loop-r-preserved : goal.loop-r-preserved
loop-r-preserved c =
    let table = c.args.table.numbers.now in
    (counted_next c.loop-r.r c.loop-r.inside (λ r. is_inside (get_or (rows_of table) r [])) c.is_inside.result c.loop-r.invariant c.from-inside.result c.from-inside.ensures (c.is_inside.ensures ∙ ap is_inside (c.row.ensures ∙ sym (row-is table c.loop-r.r (omega arith))))).1

pub returns : goal.returns
unfolding is_in_one
returns c =
    let e : c.loop-r.r ≡ 24 = omega arith in rw (c.loop-r.invariant, e) refl
