-- `numbers::kernel::abs` meets its contract.
use mathlib.Core.Path.{◌∙◌}
use Rattle.ieee_laws.proofs.MagnitudeLaws.{absolute-std}
use Rattle.numbers.proofs.kernel.abs.Goals as goal

pub returns : goal.returns
returns c = c.abs.ensures.value ∙ absolute-std c.args.x
