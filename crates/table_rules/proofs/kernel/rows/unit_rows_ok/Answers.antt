-- `table_rules::kernel::rows::unit_rows_ok` meets its contract.
use mathlib.Core.Path.{◌∙◌, sym}
use Rattle.table_rules.specs.Rows.{are_small}
use Rattle.table_rules.proofs.RowLaws.{unit-length-no, unit-small-no, unit-rows}
use Rattle.table_rules.proofs.kernel.rows.unit_rows_ok.Goals as goal

pub returns-then-table-ne288 : goal.returns-then-table-ne288
returns-then-table-ne288 c = sym (unit-length-no c.args.table.now c.if-table-ne288.true)

pub returns-then-not-are_small : goal.returns-then-not-are_small
unfolding are_small
returns-then-not-are_small c =
    sym (unit-small-no c.args.table.now c.if-table-ne288.false (sym c.are_small.ensures ∙ c.if-not-are_small.true))

pub invariant_of-rows_ok : goal.invariant_of-rows_ok
unfolding are_small
invariant_of-rows_ok c = record { sized = c.if-table-ne288.false; small = sym c.are_small.ensures ∙ c.if-not-are_small.false }

pub returns : goal.returns
unfolding are_small
returns c =
    c.rows_ok.ensures ∙ sym (unit-rows c.args.table.now c.if-table-ne288.false (sym c.are_small.ensures ∙ c.if-not-are_small.false))
