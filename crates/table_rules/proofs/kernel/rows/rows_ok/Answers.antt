-- `table_rules::kernel::rows::rows_ok` meets its contract.
use mathlib.Core.Path.{◌∙◌, ap}
use native.Mathlib.Omega.{arith}
use Rattle.list_laws.proofs.BelowLaws.{below_none, below_next, below_end}
use Rattle.tetrahedron_tables.specs.Tables.{row_ok}
use Rattle.table_rules.specs.Rows.{row_at}
use Rattle.table_rules.proofs.kernel.rows.rows_ok.Goals as goal

pub loop-r-init : goal.loop-r-init
loop-r-init c = below_none _

pub loop-r-preserved : goal.loop-r-preserved
loop-r-preserved c =
    below_next c.loop-r.r (λ r. row_ok (row_at c.args.table.numbers.now r)) c.loop-r.invariant (c.row_ok-ok.ensures ∙ ap row_ok c.row.ensures)

pub returns : goal.returns
returns c = below_end _ c.loop-r.invariant (omega arith)
