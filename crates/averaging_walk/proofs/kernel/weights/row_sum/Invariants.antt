-- `averaging_walk::kernel::weights::row_sum` meets its contract: at each turn `sum` is the sum of the weights so far.
use mathlib.Core.Path.{◌≡◌}
use Rattle.ieee_laws.specs.Zeros.{plus_zero}
use Rattle.averaging_blocks.specs.Weights.{row_sum}
use Rattle.averaging_walk.proofs.kernel.weights.row_sum.Given as goal

abbrev pub invariant-loop-weight : goal.invariant-loop-weight
invariant-loop-weight l = l.sum ≡ row_sum plus_zero l.row 0 l.weight-index
