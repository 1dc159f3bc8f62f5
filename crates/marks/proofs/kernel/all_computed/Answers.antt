-- `marks::kernel::all_computed` meets its contract.
use Prim.Native.Nat.{◌*◌, ◌+◌}
use native.Mathlib.Omega.{arith}
use Rattle.list_laws.proofs.BelowLaws.{below_end, below_next, below_none}
use Rattle.marks.specs.Marks.{are_computed, is_computed_at}
use Rattle.marks.proofs.kernel.all_computed.Goals as goal

pub loop-k-init : goal.loop-k-init
loop-k-init c = below_none _

pub loop-k-preserved : goal.loop-k-preserved
unfolding is_computed_at
loop-k-preserved c =
    below_next c.loop-k.k (λ j. is_computed_at c.args.marks.now (c.args.t * c.args.pairs + j)) c.loop-k.invariant (rw c.mark_at.ensures)

pub returns : goal.returns
unfolding are_computed
returns c = below_end _ c.loop-k.invariant (omega arith)
