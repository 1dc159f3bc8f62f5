-- `marks::kernel::set_mark` meets its contract.
use Rattle.marks.proofs.BytesLaws.{mark_set}
use Rattle.marks.proofs.kernel.set_mark.Goals as goal

pub returns : goal.returns
returns c =
    mark_set c.args.marks.now c.args.q c.args.mark c.requires.0
