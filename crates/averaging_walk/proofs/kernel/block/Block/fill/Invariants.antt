-- `averaging_walk::kernel::block::Block::fill` meets its contract: at each turn the block's rows before r are filled.
use Rattle.list_laws.specs.Matrix.{block, Replaced, InBlock}
use Rattle.averaging_walk.specs.Parts.{IsSamePlace}
use Rattle.averaging_walk.proofs.kernel.block.Block.fill.Given as goal

abbrev pub invariant-loop-r : goal.invariant-loop-r
invariant-loop-r g l =
    IsSamePlace l.initial.self l.self
    × Replaced g.E.Averaged.past_end l.self.n (InBlock (block l.self.top l.r l.self.left l.self.right)) (λ x y. l.fn.value) l.initial.self.matrix.now l.self.matrix.now
