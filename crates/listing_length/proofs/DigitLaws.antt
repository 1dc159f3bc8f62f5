-- How many digits numbers below 10,000 have, by themselves, together and in pairs. Assumes nothing.
use Prim.Native.Nat.{ℕ, zero, suc, ◌+◌, ◌-◌, ◌*◌, ◌/◌, ◌%◌, ◌≤◌, ◌<◌}
use mathlib.Core.Path.{◌≡◌, refl, sym, ap, ◌∙◌}
use mathlib.Core.Bool.{Bool, true, false}
use native.Mathlib.Nat.{mul-le-mul_left, mul-le-mul_right, div-add-mod', mod-lt}
use native.Mathlib.Omega.{arith}
use lib.Dec.{ltb}
use borrow.Author.Tests.{lt-ltb, le-ltb, ltb-true, ltb-false}
use Rattle.text.specs.Spelled.{places}
use Rattle.listing_length.specs.Totals.{total, digits_of, digits_below}
use Rattle.listing_length.proofs.TotalLaws.{total-le, total-add, total-same, total-grid}

-- ---- one number

places-small : (f n : ℕ) → n < 10 → places (suc f) n ≡ 1
unfolding places
places-small f n h = rw (lt-ltb n 10 h)

places-more : (f n : ℕ) → 10 ≤ n → places (suc f) n ≡ suc (places f (n / 10))
unfolding places
places-more f n h = rw (le-ltb n 10 h)

-- a number below 10,000 by how many digits it has
pub data Digits (n : ℕ) : Type 0 where
  one : n < 10 → digits_of n ≡ 1 → Digits n
  two : 10 ≤ n → n < 100 → digits_of n ≡ 2 → Digits n
  three : 100 ≤ n → n < 1000 → digits_of n ≡ 3 → Digits n
  four : 1000 ≤ n → digits_of n ≡ 4 → Digits n

pub digits_of_lem : (n : ℕ) → n < 10000 → Digits n
digits_of_lem n h = go (ltb n 10) (ltb n 100) (ltb n 1000) refl refl refl
  where
    go : (a b c : Bool) → ltb n 10 ≡ a → ltb n 100 ≡ b → ltb n 1000 ≡ c → Digits n
    go true b c p q r = let l : n < 10 = ltb-true n 10 p in one l (places-small 18 n l)
    go false true c p q r =
        let l : 10 ≤ n = ltb-false n 10 p in
        let m : n < 100 = ltb-true n 100 q in
        two l m (places-more 18 n l ∙ ap suc (places-small 17 (n / 10) (omega arith)))
    go false false true p q r =
        let l : 100 ≤ n = ltb-false n 100 q in
        let m : n < 1000 = ltb-true n 1000 r in
        three l m (places-more 18 n (omega arith) ∙ ap suc (places-more 17 (n / 10) (omega arith) ∙ ap suc (places-small 16 (n / 10 / 10) (omega arith))))
    go false false false p q r =
        let l : 1000 ≤ n = ltb-false n 1000 r in
        four l (places-more 18 n (omega arith) ∙ ap suc (places-more 17 (n / 10) (omega arith) ∙ ap suc (places-more 16 (n / 10 / 10) (omega arith) ∙ ap suc (places-small 15 (n / 10 / 10 / 10) (omega arith)))))

-- ---- all below a bound

-- a digit for each number, one more from 10 on, from 100 on and from 1,000 on
pub below-is : (n : ℕ) → n ≤ 10000 → digits_below n ≡ n + (n - 10) + (n - 100) + (n - 1000)
unfolding digits_below total
below-is zero h = omega arith
below-is (suc n) h = go (digits_of_lem n (omega arith)) (below-is n (omega arith))
  where
    go : Digits n → total n digits_of ≡ n + (n - 10) + (n - 100) + (n - 1000) → total n digits_of + digits_of n ≡ suc n + (suc n - 10) + (suc n - 100) + (suc n - 1000)
    go (one l e) r = omega arith
    go (two l m e) r = omega arith
    go (three l m e) r = omega arith
    go (four l e) r = omega arith

-- ---- pairs

at_least : (n : ℕ) → n < 10000 → (1 ≤ digits_of n) × (10 ≤ n → 2 ≤ digits_of n) × (100 ≤ n → 3 ≤ digits_of n) × (1000 ≤ n → 4 ≤ digits_of n)
at_least n h = go (digits_of_lem n h)
  where
    go : Digits n → (1 ≤ digits_of n) × (10 ≤ n → 2 ≤ digits_of n) × (100 ≤ n → 3 ≤ digits_of n) × (1000 ≤ n → 4 ≤ digits_of n)
    go (one l e) = (omega arith, (λ k. absurd (omega arith)), (λ k. absurd (omega arith)), (λ k. absurd (omega arith)))
    go (two l m e) = (omega arith, (λ k. omega arith), (λ k. absurd (omega arith)), (λ k. absurd (omega arith)))
    go (three l m e) = (omega arith, (λ k. omega arith), (λ k. omega arith), (λ k. absurd (omega arith)))
    go (four l e) = (omega arith, (λ k. omega arith), (λ k. omega arith), (λ k. omega arith))

-- e = q n + r: q and r have at most one digit more than e
pair-digits : (n q r e : ℕ) → r < n → e ≡ q * n + r → e < 10000 → digits_of q + digits_of r ≤ digits_of e + 1
pair-digits n q r e l d h = go (digits_of_lem q (omega (arith, most 1 (omega arith)))) (digits_of_lem r (omega arith)) (at_least e h)
  where
    most : (k : ℕ) → k ≤ n → q * k ≤ q * n
    most k m = mul-le-mul_left q m

    least : (k : ℕ) → k ≤ q → k * n ≤ q * n
    least k m = mul-le-mul_right n m

    go : Digits q → Digits r → (1 ≤ digits_of e) × (10 ≤ e → 2 ≤ digits_of e) × (100 ≤ e → 3 ≤ digits_of e) × (1000 ≤ e → 4 ≤ digits_of e) → digits_of q + digits_of r ≤ digits_of e + 1
    go (one a b) (one c f) w = omega (arith, w.0)
    go (one a b) (two c g f) w = omega (arith, w.1 (omega arith))
    go (one a b) (three c g f) w = omega (arith, w.2 (omega arith))
    go (one a b) (four c f) w = omega (arith, w.3 (omega arith))
    go (two a x b) (one c f) w = omega (arith, w.1 (omega (arith, most 1 (omega arith))))
    go (two a x b) (two c g f) w = omega (arith, w.2 (omega (arith, least 10 a)))
    go (two a x b) (three c g f) w = omega (arith, w.3 (omega (arith, least 10 a)))
    go (two a x b) (four c f) w = absurd (omega (arith, least 10 a))
    go (three a x b) (one c f) w = omega (arith, w.2 (omega (arith, most 1 (omega arith))))
    go (three a x b) (two c g f) w = omega (arith, w.3 (omega (arith, least 100 a)))
    go (three a x b) (three c g f) w = absurd (omega (arith, least 100 a))
    go (three a x b) (four c f) w = absurd (omega (arith, least 100 a))
    go (four a b) (one c f) w = omega (arith, w.3 (omega (arith, most 1 (omega arith))))
    go (four a b) (two c g f) w = absurd (omega (arith, least 1000 a))
    go (four a b) (three c g f) w = absurd (omega (arith, least 1000 a))
    go (four a b) (four c f) w = absurd (omega (arith, least 1000 a))

-- m rows of n: the digits of row and place together
pub pair-below : (m n : ℕ) → 0 < n → m * n ≤ 10000 → n * digits_below m + m * digits_below n ≤ digits_below (m * n) + m * n
unfolding digits_below
pair-below m n p h =
    let w : total (m * n) (λ e. digits_of (e / n) + digits_of (e % n)) ≤ total (m * n) (λ e. digits_of e + 1) =
    total-le (m * n) (λ e. digits_of (e / n) + digits_of (e % n)) (λ e. digits_of e + 1) (λ e l. pair-digits n (e / n) (e % n) e (mod-lt e p) (sym (div-add-mod' e n)) (omega arith)) in
    omega (arith, w, total-grid m n digits_of digits_of, total-add (m * n) digits_of (λ e. 1), total-same (m * n) 1)
