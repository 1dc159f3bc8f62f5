-- `replay_input::kernel::stamps::stamp` meets its contract: at each turn the front of the buffer holds the stamps.
use lib.ListN.{length}
use mathlib.Core.Path.{◌≡◌}
use Rattle.list_laws.specs.Lists.{fronted}
use Rattle.replay_input.specs.Stamps.{stamp_at}
use Rattle.replay_input.proofs.kernel.stamps.stamp.Given as goal

abbrev pub invariant-loop-i : goal.invariant-loop-i
invariant-loop-i l =
    (length l.out ≡ length l.initial.out) × (l.out ≡ fronted l.i stamp_at l.initial.out)
