-- `table_rules::kernel::rows::rows_ok` meets its contract.
use mathlib.Core.Path.{◌≡◌}
use Rattle.list_laws.specs.Lists.{all_below}
use Rattle.tetrahedron_tables.specs.Tables.{row_ok}
use Rattle.table_rules.specs.Rows.{row_at}
use Rattle.table_rules.proofs.kernel.rows.rows_ok.Given as goal

abbrev pub invariant-loop-r : goal.invariant-loop-r
invariant-loop-r l = l.ok ≡ all_below l.r (λ r. row_ok (row_at l.table.numbers.now r))
