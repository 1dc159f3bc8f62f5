-- `table_rules::kernel::cones::cones_ok` meets its contract: the rows before this one whose cones hold the direction.
use mathlib.Core.Path.{◌≡◌}
use mathlib.Core.List.{[]}
use lib.ListN.{get_or}
use Rattle.list_laws.specs.Lists.{count_below}
use Rattle.table_rules.specs.Rows.{rows_of}
use Rattle.table_rules.specs.Cones.{is_inside}
use Rattle.table_rules.proofs.kernel.cones.cones_ok.Given as goal

abbrev pub invariant-loop-r : goal.invariant-loop-r
invariant-loop-r l = l.inside ≡ count_below l.r (λ r. is_inside (get_or (rows_of l.table.numbers.now) r []))
