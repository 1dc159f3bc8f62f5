-- `replay_input::kernel::stamps::is_stamped` meets its contract: at each turn `ok` speaks of the first i places.
use mathlib.Core.Path.{◌≡◌}
use Rattle.list_laws.specs.Lists.{all_below, at}
use Rattle.list_laws.specs.Signed.{eq_z}
use Rattle.replay_input.specs.Stamps.{stamp_at}
use Rattle.replay_input.proofs.kernel.stamps.is_stamped.Given as goal

abbrev pub invariant-loop-i : goal.invariant-loop-i
invariant-loop-i l =
    (l.ok ≡ all_below l.i (λ k. eq_z (at l.out k) (stamp_at k)))
