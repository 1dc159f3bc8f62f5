-- `tetrahedron_method::kernel::sorted::sorted_weight` meets its contract.
use Rattle.tetrahedron_method.specs.Sorted.{sorted_sum}
use Prim.Native.Nat.{◌≤◌}
use mathlib.Core.Path.{◌≡◌}
use Rattle.tetrahedron_method.proofs.kernel.sorted.sorted_weight.Given as goal

abbrev pub invariant-loop-k : goal.invariant-loop-k
invariant-loop-k l = (l.k ≤ l.rows.count) × (l.sum ≡ sorted_sum l.function l.omega l.area l.places l.k)
