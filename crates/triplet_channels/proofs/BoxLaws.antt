-- "For each channel a box is the least and the greatest of the values.": the ends are among the values, and where no value is a NaN every value lies in the box. Assumes nothing.
use mathlib.Core.Path.{◌≡◌, refl, ◌∙◌}
use mathlib.Core.Bool.{Bool, true, false, cond}
use mathlib.Core.List.{List}
use mathlib.Core.Logic.{⊎_elim}
use Prim.Native.Nat.{ℕ, zero, suc, ◌≤◌, ◌<◌}
use native.Mathlib.Omega.{arith}
use lib.Ieee.{Float, nan, lt, is_nan}
use lib.ListN.{get_or}
use Rattle.list_laws.proofs.BoolLaws.{and_both, lt-or-le}
use Rattle.ieee_laws.proofs.OrderLaws.{lt-asym, lt_irrefl, not-above-trans, not-above-le}
use Rattle.triplet_values.specs.Values.{least_of, greatest_of, box_of}
use Rattle.triplet_outputs.specs.Outputs.{holds}

-- ---- the first of values a 0, a 1, .. in an order r, kept in f from turn to turn

module _ (r : Float → Float → Bool) (asym : (x y : Float) → r x y ≡ true → r y x ≡ false) (irrefl : (x : Float) → r x x ≡ false)
    (trans : (x y z : Float) → is_nan y ≡ false → r y x ≡ false → r z y ≡ false → r z x ≡ false)
    (a f : ℕ → Float) (start : f 0 ≡ a 0) (next : (k : ℕ) → f (suc k) ≡ cond (r (a k) (f k)) (a k) (f k)) where
  among : (n : ℕ) → 1 ≤ n → (k : ℕ) → k ≤ n → (i : ℕ) × ((i < n) × (f k ≡ a i))
  among n h zero l = (0, (omega arith, start))
  among n h (suc k) l = go (r (a k) (f k)) (next k) (among n h k (omega arith))
    where
      go : (t : Bool) → f (suc k) ≡ cond t (a k) (f k) → (i : ℕ) × ((i < n) × (f k ≡ a i)) → (i : ℕ) × ((i < n) × (f (suc k) ≡ a i))
      go true e w = (k, (omega arith, e))
      go false e w = (w.0, (w.1.0, e ∙ w.1.1))

  module _ (n : ℕ) (h : 1 ≤ n) (numbers : (i : ℕ) → i < n → is_nan (a i) ≡ false) where
    number : (k : ℕ) → k ≤ n → is_nan (f k) ≡ false
    number k l = let w : _ = among n h k l in rw w.1.1 (numbers w.0 w.1.0)

    none_before : (k : ℕ) → k ≤ n → (i : ℕ) → i < k → r (a i) (f k) ≡ false
    none_before zero l i b = absurd (omega arith)
    none_before (suc k) l i b = rw (next k) (go (none_before k (omega arith) i) (r (a k) (f k)) refl)
      where
        go : (i < k → r (a i) (f k) ≡ false) → (t : Bool) → r (a k) (f k) ≡ t → r (a i) (cond t (a k) (f k)) ≡ false
        go earlier true e =
            ⊎_elim
            (λ c. trans (a k) (f k) (a i) (number k (omega arith)) (asym (a k) (f k) e) (earlier c))
            (λ c. let q : i ≡ k = omega arith in rw q (irrefl (a k)))
            (lt-or-le i k)
        go earlier false e = ⊎_elim earlier (λ c. let q : i ≡ k = omega arith in rw q e) (lt-or-le i k)

-- ---- the box of the first n values of a

module _ (a : List Float) (n : ℕ) (some : 1 ≤ n) where
  abbrev value : ℕ → Float
  value i = get_or a i nan

  least-next : (k : ℕ) → least_of a (suc k) ≡ cond (lt (value k) (least_of a k)) (value k) (least_of a k)
  unfolding least_of
  least-next k = refl

  greatest-next : (k : ℕ) → greatest_of a (suc k) ≡ cond (lt (greatest_of a k) (value k)) (value k) (greatest_of a k)
  unfolding greatest_of
  greatest-next k = refl

  least_start : least_of a 0 ≡ value 0
  unfolding least_of
  least_start = refl

  greatest-start : greatest_of a 0 ≡ value 0
  unfolding greatest_of
  greatest-start = refl

  -- its lower end is one of the values
  pub least-among : (i : ℕ) × ((i < n) × ((box_of a n).fmin ≡ get_or a i nan))
  unfolding box_of
  least-among = among lt lt-asym lt_irrefl not-above-trans value (least_of a) least_start least-next n some n (omega arith)

  -- its upper end is one of the values
  pub greatest-among : (i : ℕ) × ((i < n) × ((box_of a n).fmax ≡ get_or a i nan))
  unfolding box_of
  greatest-among =
      among (λ x y. lt y x) (λ x y. lt-asym y x) lt_irrefl (λ x y z m h k. not-above-trans z y x m k h) value (greatest_of a) greatest-start greatest-next n some n (omega arith)

  -- of values with no NaN each lies between the ends, ends included
  pub values-held : ((i : ℕ) → i < n → is_nan (get_or a i nan) ≡ false) → (i : ℕ) → i < n → holds (box_of a n) (get_or a i nan) ≡ true
  unfolding box_of
  values-held numbers i h =
      and_both
      (not-above-le (least_of a n) (value i)
      (number lt lt-asym lt_irrefl not-above-trans value (least_of a) least_start least-next n some numbers n (omega arith)) (numbers i h)
      (none_before lt lt-asym lt_irrefl not-above-trans value (least_of a) least_start least-next n some numbers n (omega arith) i h))
      (not-above-le (value i) (greatest_of a n) (numbers i h)
      (number (λ x y. lt y x) (λ x y. lt-asym y x) lt_irrefl (λ x y z m h k. not-above-trans z y x m k h) value (greatest_of a) greatest-start greatest-next n some numbers n (omega arith))
      (none_before (λ x y. lt y x) (λ x y. lt-asym y x) lt_irrefl (λ x y z m h k. not-above-trans z y x m k h) value (greatest_of a) greatest-start greatest-next n some numbers n (omega arith) i h))
