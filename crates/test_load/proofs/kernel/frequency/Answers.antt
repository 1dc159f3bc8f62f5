-- `test_load::kernel::frequency` meets its contract.
use mathlib.Core.Path.{refl}
use lib.Ieee.{of_bits, of_int}
use Rattle.test_load.specs.Load.{frequency}
use Rattle.test_load.proofs.kernel.frequency.Goals as goal

pub returns : goal.returns
unfolding frequency of_bits of_int
returns c = rw c.from.ensures refl
