-- `replay_input::kernel::positive` meets its contract.
use Rattle.replay_input.proofs.FieldLaws.{plain-is}
use Rattle.replay_input.proofs.kernel.positive.Goals as goal

pub returns : goal.returns
returns c = plain-is c.args.n
