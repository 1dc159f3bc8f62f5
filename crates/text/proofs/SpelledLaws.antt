-- How many digits a number has, and the digits that `decimal` and `hexadecimal` spell. Assumes nothing.
use Prim.Native.Nat.{ℕ, zero, suc, ◌-◌, ◌/◌, ◌^◌, ◌≤◌, ◌<◌}
use mathlib.Core.Path.{◌≡◌, refl, sym, ap}
use mathlib.Core.Bool.{Bool, true, false, cond}
use mathlib.Core.Logic.{◌⊎◌, inl, inr}
use native.Mathlib.Omega.{arith}
use native.Mathlib.Nat.{pow-succ', pow-le-pow_right, eq-or-lt_of_le}
use lib.Dec.{ltb, lit<, lit≤}
use lib.ListN.{length}
use borrow.Author.Tests.{ltb-true, ltb-false}
use Rattle.io.specs.Digits.{last_digits, IsDigitCount}
use Rattle.text.specs.Spelled.{places, decimal, hexadecimal}
use Rattle.text.proofs.RoundTrip.{length_digits}

ten-le : (k : ℕ) → 10 ≤ 10 ^ suc k
ten-le zero = lit≤ tt
ten-le (suc k) = omega (arith, ten-le k, pow-succ' 10 (suc k))

-- a number with two digits or more is at least a power of ten
two_up : (n k : ℕ) → IsDigitCount 10 1 n (suc (suc k)) → 10 ^ suc k ≤ n
two_up n k w = let q : suc (suc k) - 1 ≡ suc k = omega arith in rw q at (w.2 (omega arith))

-- the last digit taken off
off : (n k : ℕ) → IsDigitCount 10 1 n (suc (suc k)) → IsDigitCount 10 1 (n / 10) (suc k)
off n k w = (omega arith, omega (arith, w.1, pow-succ' 10 (suc k)), upper k (two_up n k w))
  where
    upper : (k : ℕ) → 10 ^ suc k ≤ n → 1 < suc k → 10 ^ (suc k - 1) ≤ n / 10
    upper k h l = let q : suc k - 1 ≡ k = omega arith in rw q (omega (arith, h, pow-succ' 10 k))

small : (n k : ℕ) → n < 10 → IsDigitCount 10 1 n k → k ≡ 1
small n zero h w = absurd (omega (arith, w.0))
small n (suc zero) h w = refl
small n (suc (suc k)) h w = absurd (omega (arith, two_up n k w, ten-le k))

pub places_is : (f n k : ℕ) → n < 10 ^ suc f → IsDigitCount 10 1 n k → k ≡ places f n
unfolding places
places_is zero n k h w = small n k h w
places_is (suc f) n k h w = go k (ltb n 10) refl h w (λ j. places_is f (n / 10) j)
  where
    go : (k : ℕ) (t : Bool) → ltb n 10 ≡ t → n < 10 ^ suc (suc f) → IsDigitCount 10 1 n k → ((j : ℕ) → n / 10 < 10 ^ suc f → IsDigitCount 10 1 (n / 10) j → j ≡ places f (n / 10)) → k ≡ cond t 1 (suc (places f (n / 10)))
    go k true e h w r = small n k (ltb-true n 10 e) w
    go zero false e h w r = absurd (omega (arith, w.0))
    go (suc zero) false e h w r = absurd (omega (arith, w.1, ltb-false n 10 e))
    go (suc (suc k)) false e h w r = ap suc (r (suc k) (omega (arith, h, pow-succ' 10 (suc f))) (off n k w))

-- a number has at most so many places
pub places-le : (f n : ℕ) → places f n ≤ suc f
unfolding places
places-le zero n = omega arith
places-le (suc f) n = go (ltb n 10) (places-le f (n / 10))
  where
    go : (t : Bool) → places f (n / 10) ≤ suc f → cond t 1 (suc (places f (n / 10))) ≤ suc (suc f)
    go true h = omega arith
    go false h = omega arith

pub decimal-is : (n k : ℕ) → n < 2 ^ 64 → IsDigitCount 10 1 n k → last_digits 10 k n ≡ decimal n
unfolding decimal
decimal-is n k h w = ap (λ (j : ℕ). last_digits 10 j n) (places_is 19 n k (omega arith) w)

pub bits-count : (n k : ℕ) → n < 2 ^ 64 → IsDigitCount 16 16 n k → k ≡ 16
bits-count n k h w = sixteen (eq-or-lt_of_le w.0)
  where
    sixteen : (16 ≡ k) ⊎ (16 < k) → k ≡ 16
    sixteen (inl e) = sym e
    sixteen (inr l) = absurd (omega (arith, w.2 l, pow-le-pow_right {n = 16} (lit< tt) {i = 16} {j = k - 1} (omega arith), h))

pub bits_is : (n k : ℕ) → n < 2 ^ 64 → IsDigitCount 16 16 n k → last_digits 16 k n ≡ hexadecimal n
unfolding hexadecimal
bits_is n k h w = ap (λ (j : ℕ). last_digits 16 j n) (bits-count n k h w)

-- the fewest digits are as many as `places` counts
fewest-small : (n : ℕ) → n < 10 → IsDigitCount 10 1 n 1
fewest-small n h = (omega arith, h, λ l. absurd (omega (arith, l)))

fewest-more : (n k : ℕ) → 10 ≤ n → IsDigitCount 10 1 (n / 10) k → IsDigitCount 10 1 n (suc k)
fewest-more n k t w = (omega arith, omega (arith, w.1, pow-succ' 10 k), λ l. up k w.0 w)
  where
    up : (k : ℕ) → 1 ≤ k → IsDigitCount 10 1 (n / 10) k → 10 ^ (suc k - 1) ≤ n
    up zero o w = absurd (omega (arith, o))
    up (suc zero) o w = omega arith
    up (suc (suc k)) o w =
        let q : suc (suc (suc k)) - 1 ≡ suc (suc k) = omega arith in
        rw q (omega (arith, two_up (n / 10) k w, pow-succ' 10 (suc k)))

pub places-fewest : (f n : ℕ) → n < 10 ^ suc f → IsDigitCount 10 1 n (places f n)
unfolding places
places-fewest zero n h = fewest-small n h
places-fewest (suc f) n h = go (ltb n 10) refl (places-fewest f (n / 10))
  where
    go : (t : Bool) → ltb n 10 ≡ t → (n / 10 < 10 ^ suc f → IsDigitCount 10 1 (n / 10) (places f (n / 10))) → IsDigitCount 10 1 n (cond t 1 (suc (places f (n / 10))))
    go true e r = fewest-small n (ltb-true n 10 e)
    go false e r = fewest-more n (places f (n / 10)) (ltb-false n 10 e) (r (omega (arith, h, pow-succ' 10 (suc f))))

pub length-decimal : (n : ℕ) → length (decimal n) ≡ places 19 n
unfolding decimal
length-decimal n = length_digits 10 (places 19 n) n

pub length-hexadecimal : (n : ℕ) → length (hexadecimal n) ≡ 16
unfolding hexadecimal
length-hexadecimal n = length_digits 16 16 n
