-- The digits of all lines of a listing: how many they can be at most. Assumes nothing.
--
-- A listing of t triplets, p points and a and b bands writes, in its four columns of numbers, the digits of every triplet a b p times, of every point
-- a b t times, and so on. With at most 4,096 lines, 1,170 triplets and 712 points that is greatest at 195 triplets, 21 points and one pair of bands.
use Prim.Native.Nat.{ℕ, ◌+◌, ◌-◌, ◌*◌, ◌/◌, ◌≤◌, ◌<◌}
use mathlib.Core.Path.{◌≡◌, refl, ap, ◌∙◌}
use mathlib.Core.Bool.{Bool, true, false, cond}
use mathlib.Core.Logic.{◌⊎◌, inl, inr}
use native.Mathlib.Nat.{mul-le-mul, mul-le-mul_left, mul-le-mul_right, le-div_iff_mul-le}
use native.Mathlib.Omega.{arith}
use lib.Dec.{ltb, leb}
use borrow.Author.Tests.{leb-true, ltb-false}
use Rattle.list_laws.specs.Lists.{all_below}
use Rattle.list_laws.proofs.BelowLaws.{below_at}
use Rattle.list_laws.proofs.BoolLaws.{lt-or-le}
use Rattle.listing_length.specs.Totals.{digits_below}
use Rattle.listing_length.proofs.DigitLaws.{below-is, pair-below}

-- ---- two factors

-- the digits below n, for n up to 10,000
abbrev below : ℕ → ℕ
below n = n + (n - 10) + (n - 100) + (n - 1000)

-- digits of x rows of y, and 25 bytes more for each
abbrev two_factors : ℕ → ℕ → ℕ
two_factors x y = y * below x + x * below y + 25 * (x * y)

-- the most places that x rows can have, below 1,000
abbrev most_places : ℕ → ℕ
most_places x = cond (ltb x 5) 999 (4096 / x)

-- a computed test
tested : all_below 1171 (λ x. leb (two_factors x (most_places x)) 118590) ≡ true
unfolding all_below
tested = refl

two-factors : (x y : ℕ) → x ≤ 1170 → y ≤ 999 → x * y ≤ 4096 → two_factors x y ≤ 118590
two-factors x y h k l = go (ltb x 5) refl (leb-true (two_factors x (most_places x)) 118590 (below_at 1171 (λ x. leb (two_factors x (most_places x)) 118590) tested x (omega arith)))
  where
    grows : (z : ℕ) → y ≤ z → two_factors x z ≤ 118590 → two_factors x y ≤ 118590
    grows z m w = omega (arith, w, mul-le-mul_right (below x) m, mul-le-mul_left {m = below y} {n = below z} x (omega arith), mul-le-mul_left x m)

    go : (b : Bool) → ltb x 5 ≡ b → two_factors x (cond b 999 (4096 / x)) ≤ 118590 → two_factors x y ≤ 118590
    go true e w = grows 999 k w
    go false e w = grows (4096 / x) ((le-div_iff_mul-le {k = x} {x = y} {y = 4096} (omega (arith, ltb-false x 5 e))).1 (omega arith)) w

-- ---- four factors, of which one is set apart and three are taken together

-- the digits of four columns: t, p, a and b numbers
unfoldable pub columns : ℕ → ℕ → ℕ → ℕ → ℕ
columns t p a b = b * (a * (p * digits_below t + t * digits_below p) + t * p * digits_below a) + t * p * a * digits_below b

module _ (t p a b : ℕ) where
  together : (d₁ d₂ d₃ d₄ d₅ d₆ : ℕ) → b * d₃ + a * d₄ ≤ d₅ + a * b → a * b * d₂ + p * d₅ ≤ d₆ + p * (a * b)
      → b * (a * (p * d₁ + t * d₂) + t * p * d₃) + t * p * a * d₄ ≤ p * (a * b) * d₁ + t * d₆ + 2 * (t * (p * (a * b)))
  together d₁ d₂ d₃ d₄ d₅ d₆ e f = omega (arith, mul-le-mul_left (t * p) e, mul-le-mul_left t f)

  module _ (lines : t * (p * (a * b)) ≤ 4096) (some : 0 < t) (pointed : 0 < p) (banded : 0 < a * b) (b-some : 0 < b) where
    rest-small : p * (a * b) ≤ 4096
    rest-small = omega (arith, mul-le-mul_right {m = 1} {n = t} (p * (a * b)) some)

    pair_small : a * b ≤ 4096
    pair_small = omega (arith, rest-small, mul-le-mul_right {m = 1} {n = p} (a * b) pointed)

    apart : columns t p a b ≤ p * (a * b) * digits_below t + t * digits_below (p * (a * b)) + 2 * (t * (p * (a * b)))
    unfolding columns
    apart = together (digits_below t) (digits_below p) (digits_below a) (digits_below b) (digits_below (a * b)) (digits_below (p * (a * b)))
        (pair-below a b b-some (omega (arith, pair_small))) (pair-below p (a * b) banded (omega (arith, rest-small)))

    pub one_apart : t ≤ 1170 → p * (a * b) ≤ 999 → columns t p a b + 23 * (t * (p * (a * b))) ≤ 118590
    one_apart h k =
        let e : p * (a * b) * digits_below t ≡ p * (a * b) * below t = ap (λ (d : ℕ). p * (a * b) * d) (below-is t (omega arith)) in
        let f : t * digits_below (p * (a * b)) ≡ t * below (p * (a * b)) = ap (λ (d : ℕ). t * d) (below-is (p * (a * b)) (omega arith)) in
        omega (arith, apart, e, f, two-factors t (p * (a * b)) h k lines)

-- triplets and points change places
columns-turned : (t p a b : ℕ) → columns t p a b ≡ columns p t a b
unfolding columns
columns-turned t p a b = omega arith

-- ---- few triplets and few points: nearly all lines differ in their bands

module _ (a b : ℕ) (ha : a ≤ 64) (hb : b ≤ 64) where
  -- either 28 bytes a line are enough, or both bands reach 10, where the lines of one digit save 200 bytes
  bands-digits : (b * below a + a * below b ≤ 3 * (a * b)) ⊎ (b * below a + a * below b + 200 ≤ 4 * (a * b))
  bands-digits = go (lt-or-le a 10) (lt-or-le b 10)
    where
      up : (n : ℕ) → n ≤ 64 → below n ≤ 2 * n
      up n h = omega arith

      go : (a < 10) ⊎ (10 ≤ a) → (b < 10) ⊎ (10 ≤ b) → (b * below a + a * below b ≤ 3 * (a * b)) ⊎ (b * below a + a * below b + 200 ≤ 4 * (a * b))
      go (inl l) m =
          let q : below a ≡ a = omega arith in
          inl (omega (arith, ap (λ (d : ℕ). b * d) q, mul-le-mul_left a (up b hb)))
      go (inr l) (inl m) =
          let q : below b ≡ b = omega arith in
          inl (omega (arith, ap (λ (d : ℕ). a * d) q, mul-le-mul_left b (up a ha)))
      go (inr l) (inr m) =
          let q : below a + 10 ≡ 2 * a = omega arith in
          let r : below b + 10 ≡ 2 * b = omega arith in
          inr (omega (arith, ap (λ (d : ℕ). b * d) q, ap (λ (d : ℕ). a * d) r))

  few-apart : (t p : ℕ) → t ≤ 4 → p ≤ 4 → 0 < t → 0 < p → t * (p * (a * b)) ≤ 4096 → columns t p a b + 23 * (t * (p * (a * b))) ≤ 118590
  unfolding columns
  few-apart t p ht hp st sp lines = go bands-digits
    where
      dt : digits_below t ≡ t
      dt = let q : below t ≡ t = omega arith in below-is t (omega arith) ∙ q

      dp : digits_below p ≡ p
      dp = let q : below p ≡ p = omega arith in below-is p (omega arith) ∙ q

      da : digits_below a ≡ below a
      da = below-is a (omega arith)

      db : digits_below b ≡ below b
      db = below-is b (omega arith)

      one : 1 ≤ t * p
      one = omega (arith, mul-le-mul st sp)

      go : (b * below a + a * below b ≤ 3 * (a * b)) ⊎ (b * below a + a * below b + 200 ≤ 4 * (a * b))
          → b * (a * (p * digits_below t + t * digits_below p) + t * p * digits_below a) + t * p * a * digits_below b + 23 * (t * (p * (a * b))) ≤ 118590
      go (inl w) = rw (dt, dp, da, db) (omega (arith, mul-le-mul_left (t * p) w))
      go (inr w) = rw (dt, dp, da, db) (omega (arith, mul-le-mul_left (t * p) w, one))

-- ---- every listing

module _ (t p a b : ℕ) (pointed : 0 < p) (ha : 0 < a) (hb : 0 < b) (a64 : a ≤ 64) (b64 : b ≤ 64) where
  banded : 0 < a * b
  banded = omega (arith, mul-le-mul ha hb)

  none-columns : t ≡ 0 → columns t p a b ≡ 0
  unfolding columns
  none-columns e = let q : digits_below t ≡ 0 = ap digits_below e ∙ below-is 0 (omega arith) in rw (q, e) (omega arith)

  -- one channel: 23 bytes a line beside the digits of its four numbers
  pub one-channel : t ≤ 1170 → p ≤ 712 → t * (p * (a * b)) ≤ 4096 → columns t p a b + 23 * (t * (p * (a * b))) ≤ 118590
  one-channel h k lines = go (lt-or-le 0 t)
    where
      some : 0 < t → columns t p a b + 23 * (t * (p * (a * b))) ≤ 118590
      some st = pick (lt-or-le (p * (a * b)) 1000) (lt-or-le (t * (a * b)) 1000)
        where
          pick : (p * (a * b) < 1000) ⊎ (1000 ≤ p * (a * b)) → (t * (a * b) < 1000) ⊎ (1000 ≤ t * (a * b)) → columns t p a b + 23 * (t * (p * (a * b))) ≤ 118590
          pick (inl l) m = one_apart t p a b lines st pointed banded hb h (omega arith)
          pick (inr l) (inl m) = omega (arith, columns-turned t p a b, one_apart p t a b (omega arith) pointed st banded hb (omega arith) (omega arith))
          pick (inr l) (inr m) = few-apart a b a64 b64 t p (omega (arith, mul-le-mul_left t l)) (omega (arith, mul-le-mul_left p m)) st pointed lines

      go : (0 < t) ⊎ (t ≤ 0) → columns t p a b + 23 * (t * (p * (a * b))) ≤ 118590
      go (inl st) = some st
      go (inr z) = let e : t ≡ 0 = omega arith in omega (arith, none-columns e, ap (λ (n : ℕ). n * (p * (a * b))) e)

  -- no column has more than four digits
  pub four-columns : t ≤ 10000 → p ≤ 10000 → columns t p a b ≤ 16 * (t * (p * (a * b)))
  unfolding columns
  four-columns h k = omega (arith, mul-le-mul_left (p * (a * b)) (up t h), mul-le-mul_left (t * (a * b)) (up p k), mul-le-mul_left (t * p * b) (up a (omega arith)), mul-le-mul_left (t * p * a) (up b (omega arith)))
    where
      up : (n : ℕ) → n ≤ 10000 → digits_below n ≤ 4 * n
      up n h = omega (arith, below-is n h)
