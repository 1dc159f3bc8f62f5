-- `table_rules::kernel::faces::faces_ok` meets its contract: the faces of the rows before this one.
use mathlib.Core.Path.{◌≡◌}
use mathlib.Core.List.{[]}
use lib.ListN.{get_or}
use Rattle.list_laws.specs.Lists.{all_below}
use Rattle.table_rules.specs.Rows.{rows_of}
use Rattle.table_rules.specs.Faces.{is_row_paired}
use Rattle.table_rules.proofs.kernel.faces.faces_ok.Given as goal

abbrev pub invariant-loop-r : goal.invariant-loop-r
invariant-loop-r l =
    let rows = rows_of l.table.numbers.now in l.ok ≡ all_below l.r (λ r. is_row_paired rows (get_or rows r []))
