-- `open_count::kernel::is_nonzero` meets its contract: the code's test is the definition's.
use mathlib.Core.Path.{refl}
use Rattle.open_count.specs.OpenCount.{is_nonzero}
use Rattle.open_count.proofs.kernel.is_nonzero.Goals as goal

pub returns : goal.returns
unfolding is_nonzero
returns c = refl
