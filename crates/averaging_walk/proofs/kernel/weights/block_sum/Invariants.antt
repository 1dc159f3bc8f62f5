-- `averaging_walk::kernel::weights::block_sum` meets its contract: at each turn `sum` is the sum of the rows before r.
use mathlib.Core.Path.{◌≡◌}
use Prim.Native.Nat.{◌-◌}
use Rattle.ieee_laws.specs.Zeros.{plus_zero}
use Rattle.averaging_blocks.specs.Weights.{block_sum}
use Rattle.averaging_walk.proofs.kernel.weights.block_sum.Given as goal

abbrev pub invariant-loop-r : goal.invariant-loop-r
invariant-loop-r l = l.sum ≡ block_sum plus_zero l.block.matrix.now l.block.n l.block.top l.block.left (l.block.right - l.block.left) (l.r - l.block.top)
