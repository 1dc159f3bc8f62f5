-- `customer_tables::check_relative_grid_address` meets its contract.
use mathlib.Core.Path.{◌∙◌, sym}
use Rattle.table_rules.proofs.RowLaws.{unit_length, unit-small}
use Rattle.customer_tables.proofs.check_relative_grid_address.Goals as goal

pub invariant_of-table : goal.invariant_of-table
invariant_of-table c =
    let e : _ = sym c.unit_rows_ok.ensures ∙ c.if-not-unit_rows_ok.false in record { sized = unit_length _ e; small = unit-small _ e }
