-- `triplet_values::kernel::fill_channel` meets its contract.
use Prim.Native.Nat.{◌<◌, ℕ}
use lib.Ieee.{Float, nan}
use lib.ListN.{get_or, length}
use mathlib.Core.List.{List}
use mathlib.Core.Path.{◌≡◌}
use Rattle.triplet_values.specs.Values.{combined, number_of}
use Rattle.triplet_values.proofs.kernel.fill_channel.Given as goal

abbrev pub entry : ℕ → List Float → List Float → ℕ → Float
entry channel f1 f2 i = combined channel (get_or f1 i nan) (get_or f2 i nan)

abbrev pub invariant-loop-i : goal.invariant-loop-i
invariant-loop-i l =
    (length l.a ≡ 384) × ((k : ℕ) → k < l.i → get_or l.a k nan ≡ entry (number_of l.channel) l.f1 l.f2 k)
