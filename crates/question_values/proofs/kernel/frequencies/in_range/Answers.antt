-- `question_values::kernel::frequencies::in_range` meets its contract.
use Rattle.question_values.specs.Frequencies.{in_range}
use Rattle.question_values.proofs.kernel.frequencies.in_range.Goals as goal

pub returns : goal.returns
unfolding in_range
returns c = cc
