-- `marks::kernel::mark_at` meets its contract.
use Rattle.list_laws.proofs.MapLaws.{get_d_any}
use Rattle.marks.specs.Bytes.{mark_at}
use Rattle.marks.proofs.kernel.mark_at.Goals as goal

pub returns : goal.returns
unfolding mark_at
returns c =
    get_d_any c.args.marks.now c.args.q 0 1 c.requires
