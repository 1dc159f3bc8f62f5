-- `tetrahedron_method::kernel::sorted::sort_rows` meets its contract.
use Rattle.tetrahedron_method.proofs.SortedLaws.{Turned}
use Prim.Native.Nat.{◌≤◌}
use Rattle.tetrahedron_method.proofs.kernel.sorted.sort_rows.Given as goal

abbrev pub invariant-loop-k : goal.invariant-loop-k
invariant-loop-k l = (l.k ≤ l.fn.rows.count) × Turned l.initial.area l.k l.area l.places
