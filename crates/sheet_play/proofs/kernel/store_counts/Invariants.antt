-- `sheet_play::kernel::store_counts` meets its contract: at each turn the front of the row holds the counts.
use lib.ListN.{get_or, length}
use mathlib.Core.Path.{◌≡◌}
use Rattle.list_laws.specs.Lists.{fronted}
use Rattle.sheet_play.proofs.kernel.store_counts.Given as goal

abbrev pub invariant-loop-k : goal.invariant-loop-k
invariant-loop-k l = (length l.row ≡ length l.initial.row) × (l.row ≡ fronted l.k (λ j. get_or l.counts j 0) l.initial.row)
