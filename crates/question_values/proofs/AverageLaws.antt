-- What questions 17 and 19 say at one place. Assumes nothing.
use mathlib.Core.Path.{◌≡◌, refl, ap}
use mathlib.Core.Bool.{true, false, not, ◌||◌}
use mathlib.Core.List.{List}
use Prim.Native.Nat.{ℕ, zero, suc, ◌-◌, ◌<◌}
use native.Mathlib.Omega.{arith}
use lib.Dec.{eqb}
use lib.IntN.{ℤ}
use lib.ListN.{length, get_or}
use lib.Ieee.{Float, nan, le}
use borrow.Author.Tests.{eqb-true, not-true}
use Rattle.list_laws.specs.Lists.{all_below, at}
use Rattle.list_laws.specs.Signed.{eq_z, is_nat}
use Rattle.list_laws.proofs.BoolLaws.{and_left, and_right}
use Rattle.list_laws.proofs.BelowLaws.{below_at}
use Rattle.ieee_laws.specs.Magnitude.{absolute}
use Rattle.ieee_laws.specs.Zeros.{is_negative_zero}
use Rattle.question_values.specs.Averages.{is_degenerate_id, are_degenerate_ids, weight_limit, is_weight, are_weights}

-- the id at a place after the first
pub id-later : (ids : List ℤ) (k : ℕ) → (k ≡ 0 → ⊥) → (is_nat (at ids k) k || eq_z (at ids k) (at ids (k - 1))) ≡ is_degenerate_id ids k
unfolding is_degenerate_id
id-later ids zero h = absurd (h refl)
id-later ids (suc k) h = ap (λ (j : ℕ). is_nat (at ids (suc k)) (suc k) || eq_z (at ids (suc k)) (at ids j)) {x = suc k - 1} {y = k} (omega arith)

-- question 17's yes: the list is as long as there are bands, and each id is right
pub ids-length : (bands : ℕ) (ids : List ℤ) → are_degenerate_ids bands ids ≡ true → length ids ≡ bands
unfolding are_degenerate_ids
ids-length bands ids e = eqb-true (length ids) bands (and_left (eqb (length ids) bands) (all_below bands (is_degenerate_id ids)) e)

pub ids_at : (bands : ℕ) (ids : List ℤ) → are_degenerate_ids bands ids ≡ true → (k : ℕ) → k < bands → is_degenerate_id ids k ≡ true
unfolding are_degenerate_ids
ids_at bands ids e = below_at bands (is_degenerate_id ids) (and_right (eqb (length ids) bands) (all_below bands (is_degenerate_id ids)) e)

-- question 19's yes: no weight is a negative zero
pub weight-plain : (w : List Float) → are_weights w ≡ true → (k : ℕ) → k < length w → is_negative_zero (get_or w k nan) ≡ false
unfolding are_weights is_weight
weight-plain w e k h =
    let x : Float = get_or w k nan in
    not-true (is_negative_zero x) (and_right (le (absolute x) weight_limit) (not (is_negative_zero x)) (below_at (length w) (λ j. is_weight (get_or w j nan)) e k h))
