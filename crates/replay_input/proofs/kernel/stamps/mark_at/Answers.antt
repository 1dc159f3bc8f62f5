-- `replay_input::kernel::stamps::mark_at` meets its contract.
use Prim.Native.Nat.{◌%◌}
use borrow.Author.Tests.{eq-eqb, ne_eqb}
use Rattle.replay_input.specs.Stamps.{mark_at}
use Rattle.replay_input.proofs.kernel.stamps.mark_at.Goals as goal

pub returns-then-place-eq0 : goal.returns-then-place-eq0
unfolding mark_at
returns-then-place-eq0 c =
    simp (eq-eqb (c.args.place % 2) 0 c.if-place-eq0.true)

pub returns-else-place-eq0 : goal.returns-else-place-eq0
unfolding mark_at
returns-else-place-eq0 c =
    simp (ne_eqb (c.args.place % 2) 0 c.if-place-eq0.false)
