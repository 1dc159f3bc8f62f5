-- The digits of a number, counted and compared from the last on. Assumes nothing.
use Prim.Native.Nat.{ℕ, zero, suc, ◌+◌, ◌-◌, ◌/◌, ◌%◌, ◌^◌, ◌*◌, ◌≤◌, ◌<◌}
use mathlib.Core.Path.{◌≡◌, refl, sym, ap, ◌∙◌}
use mathlib.Core.List.{List, ◌∷◌, ◌++◌}
use native.Mathlib.Nat.{mod-lt, pow-succ'}
use native.Mathlib.Omega.{arith}
use lib.ListN.{length, get_or, take, drop}
use lib.Seq.{append_snoc, drop-cons, get_or_at, get_or-drop, get_or-take}
use borrow.Author.Tests.{le-ltb, lt-ltb}
use Rattle.io.specs.Digits.{last_digits, hex_digit_ascii}
use Rattle.text.specs.Spelled.{places}
use Rattle.text.proofs.RoundTrip.{length_digits}
use Rattle.reading.proofs.PassedLaws.{Stand}

-- ---- how many

places-more : (f m : ℕ) → 10 ≤ m → places (suc f) m ≡ suc (places f (m / 10))
unfolding places
places-more f m t = rw (le-ltb m 10 t)

-- one digit
pub places-last : (f m : ℕ) → m < 10 → places f m ≡ 1
unfolding places
places-last zero m h = refl
places-last (suc f) m h = rw (lt-ltb m 10 h)

-- one more than the power of ten that it reaches
pub places_power : (f k n : ℕ) → k ≤ f → 10 ^ k ≤ n → n < 10 * 10 ^ k → places f n ≡ k + 1
places_power f zero n h a b = places-last f n (omega arith)
places_power zero (suc k) n h a b = absurd (omega (arith, h))
places_power (suc f) (suc k) n h a b =
    let p : 10 ^ suc k ≡ 10 * 10 ^ k = pow-succ' 10 k in
    places-more f n (omega (arith, a, p, pow-pos k)) ∙ omega (arith, places_power f k (n / 10) (omega (arith, h)) (omega (arith, a, p)) (omega (arith, b, p)))
  where
    pow-pos : (k : ℕ) → 1 ≤ 10 ^ k
    pow-pos zero = omega arith
    pow-pos (suc k) = omega (arith, pow-pos k, pow-succ' 10 k)

-- ---- from the last on

digit_glyph : (m : ℕ) → hex_digit_ascii (m % 10) ≡ 48 + m % 10
digit_glyph m = simp (lt-ltb (m % 10) 10 (mod-lt m (omega arith)))

module _ (n k m i at : ℕ) (text : List ℕ) (e : last_digits 10 k n ≡ last_digits 10 i m ++ take (k - i) (drop (at + i) text)) where
  -- the digits before one that was compared, the digit, and those behind it
  parted : (j : ℕ) → i ≡ suc j → last_digits 10 k n ≡ last_digits 10 j (m / 10) ++ (48 + m % 10) ∷ take (k - i) (drop (at + i) text)
  parted j p =
      e
      ∙ (ap (λ (x : ℕ). last_digits 10 x m ++ take (k - i) (drop (at + i) text)) p
      ∙ (append_snoc (last_digits 10 j (m / 10)) (hex_digit_ascii (m % 10)) (take (k - i) (drop (at + i) text))
      ∙ ap (λ (x : ℕ). last_digits 10 j (m / 10) ++ x ∷ take (k - i) (drop (at + i) text)) (digit_glyph m)))

  pub digit-same : 0 < i → i ≤ k → at + k ≤ length text → get_or text (at + (i - 1)) 0 ≡ 48 + m % 10 → last_digits 10 k n ≡ last_digits 10 (i - 1) (m / 10) ++ take (k - (i - 1)) (drop (at + (i - 1)) text)
  digit-same h l room d =
      let s : i ≡ suc (i - 1) = omega arith in
      let q : k - (i - 1) ≡ suc (k - i) = omega arith in
      let r : suc (at + (i - 1)) ≡ at + i = omega arith in
      parted (i - 1) s ∙ sym (rw (q, drop-cons text (at + (i - 1)) 0 (omega arith), r, d))

  pub digit-other : 0 < i → i ≤ k → (get_or text (at + (i - 1)) 0 ≡ 48 + m % 10 → ⊥) → Stand (last_digits 10 k n) at text → ⊥
  digit-other h l differs s =
      let p : i ≡ suc (i - 1) = omega arith in
      differs (
      sym (get_or-drop at text (i - 1) 0)
      ∙ (sym (get_or-take (length (last_digits 10 k n)) (drop at text) (i - 1) 0 (omega (arith, length_digits 10 k n)))
      ∙ (ap (λ (x : List ℕ). get_or x (i - 1) 0) (s ∙ parted (i - 1) p)
      ∙ get_or_at (last_digits 10 (i - 1) (m / 10)) (48 + m % 10) (take (k - i) (drop (at + i) text)) 0 (i - 1) (length_digits 10 (i - 1) (m / 10))))
      )

-- what `grind` is given at a function
pub ruleset places_laws = (places-last, places_power)
