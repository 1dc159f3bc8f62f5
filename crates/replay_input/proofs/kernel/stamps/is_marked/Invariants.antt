-- `replay_input::kernel::stamps::is_marked` meets its contract: at each turn `ok` speaks of the first i places.
use lib.Dec.{eqb}
use lib.Ieee.{binary64, nan, to_bits}
use lib.ListN.{get_or}
use mathlib.Core.Path.{◌≡◌}
use Rattle.list_laws.specs.Lists.{all_below}
use Rattle.replay_input.specs.Stamps.{mark_at}
use Rattle.replay_input.proofs.kernel.stamps.is_marked.Given as goal

abbrev pub invariant-loop-i : goal.invariant-loop-i
invariant-loop-i l =
    (l.ok ≡ all_below l.i (λ k. eqb (to_bits binary64 (get_or l.out k nan)) (to_bits binary64 (mark_at k))))
