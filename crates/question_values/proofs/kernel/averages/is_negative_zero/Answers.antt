-- `question_values::kernel::averages::is_negative_zero` meets its contract.
use lib.Ieee.{of_bits}
use Rattle.ieee_laws.proofs.ZeroLaws.{negative-zero}
use Rattle.question_values.proofs.kernel.averages.is_negative_zero.Goals as goal

pub returns : goal.returns
unfolding of_bits
returns c = negative-zero c.args.x
