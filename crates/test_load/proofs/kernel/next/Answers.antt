-- `test_load::kernel::next` meets its contract.
use mathlib.Core.Path.{refl}
use Rattle.test_load.specs.Load.{next}
use Rattle.test_load.proofs.kernel.next.Goals as goal

pub returns : goal.returns
unfolding next
returns c = rw c.from.ensures refl
