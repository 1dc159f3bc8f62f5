-- `question_values::kernel::frequencies::all_in_range` meets its contract.
use lib.Ieee.{nan}
use lib.ListN.{get_or}
use mathlib.Core.Path.{◌≡◌}
use Rattle.list_laws.specs.Lists.{all_below}
use Rattle.question_values.specs.Frequencies.{in_range}
use Rattle.question_values.proofs.kernel.frequencies.all_in_range.Given as goal

abbrev pub invariant-loop-x : goal.invariant-loop-x
invariant-loop-x l = l.ok ≡ all_below l.x-index (λ k. in_range l.low l.high (get_or l.xs k nan))
