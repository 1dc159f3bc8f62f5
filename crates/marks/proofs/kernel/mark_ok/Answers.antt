-- `marks::kernel::mark_ok` meets its contract.
use mathlib.Core.Path.{refl}
use Rattle.marks.specs.Marks.{alike, is_mark_beside}
use Rattle.marks.proofs.kernel.mark_ok.Goals as goal

pub returns : goal.returns
unfolding is_mark_beside alike
returns c = refl
