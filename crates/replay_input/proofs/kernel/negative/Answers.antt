-- `replay_input::kernel::negative` meets its contract: -1 - n of an n below 2^63 fits.
use Rattle.replay_input.proofs.FieldLaws.{negated-zero, negated-is}
use Rattle.replay_input.proofs.kernel.negative.Goals as goal

pub returns-then-n-eq0 : goal.returns-then-n-eq0
returns-then-n-eq0 c = negated-zero c.args.n c.if-n-eq0.true

pub returns : goal.returns
returns c = negated-is c.args.n c.if-n-eq0.false
