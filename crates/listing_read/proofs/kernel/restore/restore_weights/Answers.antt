-- `listing_read::kernel::restore::restore_weights` meets its contract.
use Prim.Native.Nat.{◌+◌, ◌*◌, ◌<◌}
use lib.Ieee.{nan}
use lib.ListN.{length}
use mathlib.Core.Path.{◌∙◌}
use native.Mathlib.Omega.{arith}
use Rattle.list_laws.proofs.ColumnLaws.{column-next}
use Rattle.list_laws.proofs.ProductLaws.{digit_lt}
use Rattle.listing_line.specs.Lines.{weight_here}
use Rattle.listing_read.proofs.kernel.restore.restore_weights.Goals.{In-loop-c}
use Rattle.listing_read.proofs.kernel.restore.restore_weights.Goals as goal

-- the place of the channel's weight is one of the buffer
room : (c : In-loop-c) → c.loop-c.c * c.args.cells + c.args.e < length c.loop-c.weights
room c =
    omega (arith, c.loop-c.invariant.0.same_length, c.requires.1, digit_lt c.loop-c.c c.args.channels c.args.e c.args.cells (omega arith) c.requires.0)

pub loop-c-preserved : goal.loop-c-preserved
loop-c-preserved c = (
  column-next nan c.args.cells c.args.e (λ r k. weight_here c.args.reader.now.text.now (c.args.reader.now.at + 17 * r)) c.args.weights.now c.loop-c.c c.loop-c.weights _ c.requires.0 (room (goal.at.loop-c-preserved c).In-loop-c)
      (rw (c.loop-c.invariant.1, c.loop-c.invariant.2) at c.weight_at.ensures) c.loop-c.invariant.0,
  omega (arith, c.skip.ensures.at, c.loop-c.invariant.1),
  c.skip.ensures.text ∙ c.loop-c.invariant.2,
)
