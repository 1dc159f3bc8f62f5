-- The value of a block of weights: the mean of more than one entry, and none of one.
use mathlib.Core.Path.{sym, ap, ◌∙◌}
use native.Mathlib.Omega.{arith}
use lib.IntN.{pos}
use lib.Ieee.{Float, binary64, div, of_int}
use Rattle.list_laws.specs.Matrix.{entries}
use Rattle.ieee_laws.specs.Zeros.{plus_zero}
use Rattle.averaging_walk.specs.Parts.{part_of}
use Rattle.averaging_blocks.specs.Weights.{mean}
use Rattle.averaging_blocks.proofs.WeightLaws.{averaged-many, averaged-one}
use Rattle.averaging_walk.proofs.kernel.weights.F64Averaged.block_value.Goals as goal

pub returns-then-count-gt1 : goal.returns-then-count-gt1
unfolding mean
returns-then-count-gt1 c =
    λ r k inside.
    ap (λ (s : Float). div binary64 s (of_int binary64 (pos (entries (part_of c.args.block.now))))) c.block_sum.ensures
    ∙ sym (averaged-many plus_zero c.args.block.now.n (part_of c.args.block.now) c.args.block.now.matrix.now r k (omega arith))

pub returns : goal.returns
returns c = λ r k inside. sym (averaged-one plus_zero c.args.block.now.n (part_of c.args.block.now) c.args.block.now.matrix.now r k (omega arith))
