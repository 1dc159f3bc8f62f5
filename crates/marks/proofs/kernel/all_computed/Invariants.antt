-- `marks::kernel::all_computed` meets its contract.
use Prim.Native.Nat.{◌*◌, ◌+◌}
use mathlib.Core.Path.{◌≡◌}
use Rattle.list_laws.specs.Lists.{all_below}
use Rattle.marks.specs.Marks.{is_computed_at}
use Rattle.marks.proofs.kernel.all_computed.Given as goal

abbrev pub invariant-loop-k : goal.invariant-loop-k
invariant-loop-k l = l.ok ≡ all_below l.k (λ j. is_computed_at l.marks (l.t * l.pairs + j))
