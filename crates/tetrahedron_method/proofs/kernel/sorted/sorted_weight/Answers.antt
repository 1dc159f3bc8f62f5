-- `tetrahedron_method::kernel::sorted::sorted_weight` meets its contract.
use Rattle.tetrahedron_method.specs.Sorted.{sorted_sum}
use native.Mathlib.Numerals.{add-one}
use Prim.Native.Nat.{◌/◌}
use lib.ListN.{length}
use mathlib.Core.Path.{refl}
use borrow.Author.Rules.{rules}
use Rattle.tetrahedron_method.proofs.RowLaws.{chunk_row}
use native.Mathlib.Omega.{arith}
use Rattle.tetrahedron_method.proofs.kernel.sorted.sorted_weight.Goals as goal

pub loop-k-preserved : goal.loop-k-preserved
unfolding sorted_sum
loop-k-preserved c =
    (search rules, rw (add-one, c.loop-k.invariant.1, c.sorted_row_weight-sum.ensures, c.as_chunks.ensures.front, chunk_row (length c.args.area.now / 4) c.loop-k.k c.args.area.now (omega (arith, c.args.rows.few)) (omega arith)) refl)
