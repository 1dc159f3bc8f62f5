-- `averaging_walk::kernel::block::Block::average` meets its contract.
use Rattle.list_laws.proofs.MatrixLaws.{replaced-as, replaced-same}
use Rattle.degenerate_sets.proofs.WalkLaws.{block-turn}
use Rattle.averaging_walk.specs.Parts.{part_of}
use Rattle.averaging_walk.proofs.kernel.block.Block.average.Goals as goal

pub returns-in-Some-clause-content : goal.returns-in-Some-clause-content
returns-in-Some-clause-content g c =
    let e = g.E.Averaged in
    block-turn e.past_end c.args.self.now.n (e.rule c.args.self.now.n) (part_of c.args.self.now) c.args.self.now.matrix.now _ c.args.self.now.square.0
    (replaced-as c.fill.ensures.content (λ r k h. c.in-Some.ensures r k h))

pub returns-in_default-clause-content : goal.returns-in_default-clause-content
returns-in_default-clause-content g c =
    let e = g.E.Averaged in
    block-turn e.past_end c.args.self.now.n (e.rule c.args.self.now.n) (part_of c.args.self.now) c.args.self.now.matrix.now c.args.self.now.matrix.now c.args.self.now.square.0
    (replaced-same (λ r k h. c.in_default.ensures r k h))
