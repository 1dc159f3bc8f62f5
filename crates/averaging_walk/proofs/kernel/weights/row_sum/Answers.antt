-- `averaging_walk::kernel::weights::row_sum` meets its contract: at each turn `sum` is the sum of the weights so far.
use mathlib.Core.Path.{refl, ap}
use Prim.Native.Nat.{ℕ, ◌+◌}
use native.Mathlib.Numerals.{add-one}
use native.Mathlib.Omega.{arith}
use lib.ListN.{get_or}
use lib.Ieee.{nan, binary64, add, of_bits}
use Rattle.ieee_laws.specs.Zeros.{plus_zero}
use Rattle.averaging_blocks.specs.Weights.{row_sum}
use Rattle.averaging_walk.proofs.kernel.weights.row_sum.Goals as goal

pub loop-weight-init : goal.loop-weight-init
unfolding row_sum of_bits
loop-weight-init c = refl

pub loop-weight-preserved : goal.loop-weight-preserved
unfolding row_sum
loop-weight-preserved c =
    let i = c.loop-weight.weight-index in
    rw (add-one, c.loop-weight.invariant)
    (ap (λ (k : ℕ). add binary64 (row_sum plus_zero c.args.row.now 0 i) (get_or c.args.row.now k nan)) {x = i} {y = 0 + i} (omega arith))
