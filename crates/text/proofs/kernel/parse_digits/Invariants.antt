-- `text::kernel::parse_digits` meets its contract.
use Prim.Native.Nat.{◌≤◌}
use mathlib.Core.Path.{◌≡◌}
use lib.ListN.{drop}
use Rattle.text.specs.Fields.{value}
use Rattle.text.proofs.kernel.parse_digits.Given as goal

abbrev pub invariant-loop-b : goal.invariant-loop-b
invariant-loop-b l = (l.n ≤ l.limit) × (value l.base l.limit (drop l.b-index l.s) l.n ≡ value l.base l.limit l.s 0)
