-- `marks::kernel::not_averaged` meets its contract.
use Rattle.marks.specs.Marks.{is_averaged_at, is_not_averaged}
use Rattle.marks.proofs.kernel.not_averaged.Goals as goal

pub returns : goal.returns
unfolding is_not_averaged is_averaged_at
returns c =
    rw c.mark_at.ensures
