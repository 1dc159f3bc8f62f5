-- What the range of omega means: on sorted values range k is v[k-1] ≤ omega < v[k], and nothing bounds range 0 from below and range 4 from above. Assumes nothing.
use mathlib.Core.Path.{◌≡◌, refl}
use mathlib.Core.Bool.{Bool, true, false, cond}
use mathlib.Core.List.{List}
use Prim.Native.Nat.{ℕ, zero, suc, ◌≤◌, ◌<◌}
use native.Mathlib.Omega.{arith}
use lib.ListN.{get_or}
use lib.Ieee.{Float, nan, lt, le, is_nan}
use Rattle.ieee_laws.proofs.OrderLaws.{not-above-trans, not-above-le, le-not-above, le-numbers}
use Rattle.tetrahedron_fractions.specs.Branch.{branch_of}

-- four values, each at most the next: numbers, since a NaN is at most nothing
abbrev pub Sorted : List Float → Type 0
Sorted v = (i : ℕ) → i < 3 → le (get_or v i nan) (get_or v (suc i) nan) ≡ true

-- v[k-1] ≤ omega < v[k], for k from 0 to 4
pub record InRange (w : Float) (v : List Float) (k : ℕ) : Type 0 where
  pub counted : k ≤ 4
  pub from : (i : ℕ) → suc i ≡ k → le (get_or v i nan) w ≡ true
  pub below : k < 4 → lt w (get_or v k nan) ≡ true

module _ (w : Float) (v : List Float) (sorted : Sorted v) where
  number : (i : ℕ) → i < 4 → is_nan (get_or v i nan) ≡ false
  number zero h = (le-numbers (get_or v 0 nan) (get_or v 1 nan) (sorted 0 (omega arith))).0
  number (suc i) h = (le-numbers (get_or v i nan) (get_or v (suc i) nan) (sorted i (omega arith))).1

  -- omega is not below a value: nor below those before it
  earlier : (i : ℕ) → suc i < 4 → lt w (get_or v (suc i) nan) ≡ false → lt w (get_or v i nan) ≡ false
  earlier i h e =
      not-above-trans (get_or v i nan) (get_or v (suc i) nan) w (number (suc i) h) (le-not-above (get_or v i nan) (get_or v (suc i) nan) (sorted i (omega arith))) e

  module _ (number-w : is_nan w ≡ false) where
    reached : (i : ℕ) → i < 4 → lt w (get_or v i nan) ≡ false → le (get_or v i nan) w ≡ true
    reached i h e = not-above-le (get_or v i nan) w (number i h) number-w e

    -- a number omega lies in the range of its branch
    pub branch-range : InRange w v (branch_of w v)
    unfolding branch_of
    branch-range = go (lt w (get_or v 0 nan)) (lt w (get_or v 1 nan)) (lt w (get_or v 2 nan)) (lt w (get_or v 3 nan)) refl refl refl refl
      where
        go : (p q r s : Bool) → lt w (get_or v 0 nan) ≡ p → lt w (get_or v 1 nan) ≡ q → lt w (get_or v 2 nan) ≡ r → lt w (get_or v 3 nan) ≡ s
            → InRange w v (cond p 0 (cond q 1 (cond r 2 (cond s 3 4))))
        go true q r s a b c d = record { counted = omega arith; from = λ i e. absurd (omega arith); below = λ _. a }
        go false true r s a b c d = record { counted = omega arith; from = λ i e. let n : i ≡ 0 = omega arith in rw n (reached 0 (omega arith) a); below = λ _. b }
        go false false true s a b c d = record { counted = omega arith; from = λ i e. let n : i ≡ 1 = omega arith in rw n (reached 1 (omega arith) b); below = λ _. c }
        go false false false true a b c d = record { counted = omega arith; from = λ i e. let n : i ≡ 2 = omega arith in rw n (reached 2 (omega arith) c); below = λ _. d }
        go false false false false a b c d =
            record { counted = omega arith; from = λ i e. let n : i ≡ 3 = omega arith in rw n (reached 3 (omega arith) d); below = λ l. absurd (omega arith) }

  -- and in no other: the range that omega lies in is its branch
  pub range-branch : (k : ℕ) → InRange w v k → branch_of w v ≡ k
  unfolding branch_of
  range-branch zero h = rw (h.below (omega arith))
  range-branch (suc zero) h = rw (le-not-above (get_or v 0 nan) w (h.from 0 refl), h.below (omega arith))
  range-branch (suc (suc zero)) h =
      let b : lt w (get_or v 1 nan) ≡ false = le-not-above (get_or v 1 nan) w (h.from 1 refl) in
      rw (earlier 0 (omega arith) b, b, h.below (omega arith))
  range-branch (suc (suc (suc zero))) h =
      let c : lt w (get_or v 2 nan) ≡ false = le-not-above (get_or v 2 nan) w (h.from 2 refl) in
      let b : lt w (get_or v 1 nan) ≡ false = earlier 1 (omega arith) c in
      rw (earlier 0 (omega arith) b, b, c, h.below (omega arith))
  range-branch (suc (suc (suc (suc zero)))) h =
      let d : lt w (get_or v 3 nan) ≡ false = le-not-above (get_or v 3 nan) w (h.from 3 refl) in
      let c : lt w (get_or v 2 nan) ≡ false = earlier 2 (omega arith) d in
      let b : lt w (get_or v 1 nan) ≡ false = earlier 1 (omega arith) c in
      rw (earlier 0 (omega arith) b, b, c, d)
  range-branch (suc (suc (suc (suc (suc k))))) h = absurd (omega (arith, h.counted))
