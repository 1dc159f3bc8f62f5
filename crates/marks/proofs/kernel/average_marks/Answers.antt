-- `marks::kernel::average_marks` meets its contract.
use mathlib.Core.Path.{◌∙◌}
use native.Mathlib.Omega.{arith}
use Rattle.marks.proofs.MarkLaws.{averaged-all, averaged-more, averaged-none}
use Rattle.marks.proofs.kernel.average_marks.Goals as goal

pub loop-k-init : goal.loop-k-init
loop-k-init c = averaged-none _ _ _

pub loop-k-preserved : goal.loop-k-preserved
loop-k-preserved c =
    let args = c.args in
    let loop = c.loop-k in
    c.set_mark.ensures ∙ rw loop.invariant (averaged-more args.pairs args.t args.marks.now loop.k (omega arith))

pub returns : goal.returns
returns c =
    let args = c.args in
    c.loop-k.invariant ∙ averaged-all args.pairs args.t args.marks.now c.loop-k.k (omega arith) c.requires.0
