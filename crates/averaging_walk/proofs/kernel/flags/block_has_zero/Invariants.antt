-- `averaging_walk::kernel::flags::block_has_zero` meets its contract: no row before r has a 0.
use mathlib.Core.Path.{◌≡◌}
use mathlib.Core.Bool.{false}
use Prim.Native.Nat.{◌-◌}
use Rattle.averaging_flags.specs.Flags.{rows_have_zero}
use Rattle.averaging_walk.proofs.kernel.flags.block_has_zero.Given as goal

abbrev pub invariant-loop-r : goal.invariant-loop-r
invariant-loop-r l = rows_have_zero l.block.matrix.now l.block.n l.block.top l.block.left (l.block.right - l.block.left) (l.r - l.block.top) ≡ false
