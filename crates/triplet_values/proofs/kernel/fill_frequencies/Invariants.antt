-- `triplet_values::kernel::fill_frequencies` meets its contract.
use Prim.Native.Nat.{◌*◌, ◌+◌, ◌<◌, ℕ}
use lib.Ieee.{Float, nan}
use lib.ListN.{get_or, length}
use mathlib.Core.List.{List}
use mathlib.Core.Path.{◌≡◌}
use Rattle.triplet_values.specs.Values.{corner_frequency}
use Rattle.triplet_types.specs.declared.TpType.{TpType}
use Rattle.triplet_values.proofs.kernel.fill_frequencies.Given as goal

abbrev pub entry : TpType → List ℕ → List Float → ℕ → ℕ → ℕ → Float
entry tp numbers frequencies bands band i = corner_frequency tp (get_or frequencies (get_or numbers i 0 * bands + band) nan)

abbrev pub invariant-loop-i : goal.invariant-loop-i
invariant-loop-i l =
    (length l.a ≡ 384) × ((k : ℕ) → k < l.i → get_or l.a k nan ≡ entry l.tp l.numbers l.band.frequencies.now l.band.bands l.band.band k)
