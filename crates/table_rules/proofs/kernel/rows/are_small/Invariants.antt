-- `table_rules::kernel::rows::are_small` meets its contract.
use mathlib.Core.Path.{◌≡◌}
use Rattle.list_laws.specs.Lists.{all_below, at}
use Rattle.list_laws.specs.Signed.{within}
use Rattle.table_rules.proofs.kernel.rows.are_small.Given as goal

abbrev pub invariant-loop-x : goal.invariant-loop-x
invariant-loop-x l = l.ok ≡ all_below l.x-index (λ k. within 2 (at l.table k))
