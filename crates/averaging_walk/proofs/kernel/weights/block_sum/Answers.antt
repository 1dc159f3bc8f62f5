-- `averaging_walk::kernel::weights::block_sum` meets its contract: at each turn `sum` is the sum of the rows before r.
use mathlib.Core.Path.{◌≡◌, sym, ap, ◌∙◌}
use Prim.Native.Nat.{◌+◌, ◌-◌, ◌*◌}
use native.Mathlib.Omega.{arith}
use lib.Ieee.{Float, binary64, add, of_bits}
use Rattle.ieee_laws.specs.Zeros.{plus_zero}
use Rattle.averaging_blocks.specs.Weights.{row_sum, block_sum}
use Rattle.averaging_blocks.proofs.WeightLaws.{sum-none, sum_more}
use Rattle.averaging_walk.proofs.RowLaws.{part-sum}
use Rattle.averaging_walk.proofs.kernel.weights.block_sum.Goals as goal

pub loop-r-init : goal.loop-r-init
unfolding of_bits
loop-r-init c = sym (sum-none _ _ _ _ _ _)

pub loop-r-preserved : goal.loop-r-preserved
loop-r-preserved c =
    let b = c.args.block.now in
    let m = b.matrix.now in
    let from = c.loop-r.r * b.n + b.left in
    let wide = b.right - b.left in
    let row : c.row_sum-sum.result ≡ row_sum plus_zero m from wide =
    c.row_sum-sum.ensures ∙ (λ i. row_sum plus_zero (c.row.ensures.entries i) 0 (c.row.ensures.width i))
    ∙ part-sum plus_zero m from wide wide (omega arith) in
    ap (λ (x : Float). add binary64 x c.row_sum-sum.result) c.loop-r.invariant
    ∙ ap (add binary64 (block_sum plus_zero m b.n b.top b.left wide (c.loop-r.r - b.top))) row
    ∙ sum_more plus_zero m b.n b.top b.left wide c.loop-r.r (omega arith)
