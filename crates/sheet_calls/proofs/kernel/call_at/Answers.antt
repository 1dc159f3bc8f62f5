-- `sheet_calls::kernel::call_at` meets its contract.
use mathlib.Core.Path.{◌∙◌}
use Rattle.sheet_calls.proofs.CallLaws.{six-call}
use Rattle.sheet_calls.proofs.kernel.call_at.Goals as goal

pub returns : goal.returns
returns c = c.call_of.ensures ∙ six-call c.args.calls.list.now c.args.calls.ids.now c.args.i
