-- `answer::answer` meets its contract.
use Rattle.answer.proofs.HeldLaws.{answerable, answered-so, its-answer, none-held}
use Rattle.answer.proofs.answer.Goals as goal

pub put_held-requires : goal.put_held-requires
put_held-requires c = answerable c.args.text.now _ c.in-Some.ensures

pub returns-in-Some-clause-value : goal.returns-in-Some-clause-value
returns-in-Some-clause-value c =
    (answered-so _ _ _ _ _ c.put_held.ensures.0 c.put_held.ensures.1 (its-answer c.args.text.now _ c.in-Some.ensures)).0

pub returns-in-Some-clause-out_after : goal.returns-in-Some-clause-out_after
returns-in-Some-clause-out_after c =
    (answered-so _ _ _ _ _ c.put_held.ensures.0 c.put_held.ensures.1 (its-answer c.args.text.now _ c.in-Some.ensures)).1

pub returns-in-None-clause-value : goal.returns-in-None-clause-value
returns-in-None-clause-value c =
    (answered-so _ _ _ _ _ c.put_refused.ensures.0 c.put_refused.ensures.1 (none-held c.args.text.now c.in-None.ensures)).0

pub returns-in-None-clause-out_after : goal.returns-in-None-clause-out_after
returns-in-None-clause-out_after c =
    (answered-so _ _ _ _ _ c.put_refused.ensures.0 c.put_refused.ensures.1 (none-held c.args.text.now c.in-None.ensures)).1
