-- `averaging_walk::kernel::walk::fill_row` meets its contract: at each turn the entries so far are filled.
use mathlib.Core.Path.{◌≡◌}
use mathlib.Core.List.{◌++◌}
use lib.ListN.{drop, replicate}
use Rattle.averaging_walk.proofs.kernel.walk.fill_row.Given as goal

abbrev pub invariant-loop-entry : goal.invariant-loop-entry
invariant-loop-entry g l = l.entry-items ≡ replicate l.entry-index l.fn.value ++ drop l.entry-index l.initial.entry-items
