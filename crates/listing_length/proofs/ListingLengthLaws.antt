-- How long a listing is, and how long it can be: at most 118,617 bytes where it has at most 4,096 weights, 1,170 triplets and 712 points. Assumes nothing.
use Prim.Native.Nat.{ℕ, ◌+◌, ◌*◌, ◌/◌, ◌%◌, ◌≤◌, ◌<◌}
use mathlib.Core.Path.{◌≡◌, refl, ap, ◌∙◌}
use mathlib.Core.Bool.{Bool, true, false, cond}
use mathlib.Core.List.{List, [], ◌∷◌}
use mathlib.Core.Logic.{◌⊎◌, inl, inr}
use native.Mathlib.Nat.{mul-le-mul_right}
use native.Mathlib.Omega.{arith}
use lib.Ieee.{Float, nan, binary64, to_bits}
use lib.IntN.{ℤ, pos}
use lib.ListN.{length, get_or, length-append}
use Rattle.list_laws.specs.Lists.{at, rows}
use Rattle.list_laws.specs.Signed.{eq_z}
use Rattle.list_laws.proofs.BoolLaws.{lt-or-le}
use Rattle.text.specs.Spelled.{places, decimal, hexadecimal}
use Rattle.text.proofs.SpelledLaws.{length-decimal, length-hexadecimal, places-le}
use Rattle.listing.specs.Listings.{number, weight_end, weight_of, weights_of, flag_at, line_of, lines_of, listing_of, refusal_of}
use Rattle.listing.proofs.ListingLaws.{front-lengths, line-length, listing-length, refusal-length}
use Rattle.listing_length.specs.Totals.{total, digits_of, digits_below}
use Rattle.listing_length.proofs.TotalLaws.{rows-length, total-is, total-add, total-same, total-grid}
use Rattle.listing_length.proofs.DigitLaws.{below-is}
use Rattle.listing_length.proofs.LongestLaws.{columns, one-channel, four-columns}

number-length : (n end : ℕ) → length (number n end) ≡ digits_of n + 1
number-length n end = omega (arith, length-append (decimal n) (end ∷ []), length-decimal n)

one-digit : (t : Bool) → digits_of (cond t 0 1) ≡ 1
unfolding places
one-digit true = refl
one-digit false = refl

flag-digit : (flags : List ℤ) (e : ℕ) → digits_of (flag_at flags e) ≡ 1
unfolding flag_at
flag-digit flags e = one-digit (eq_z (at flags e) (pos 0))

weight-length : (weights : List Float) (total e channels c : ℕ) → length (weight_of weights total e channels c) ≡ 17
unfolding weight_of
weight-length weights total e channels c =
    let bits : ℕ = to_bits binary64 (get_or weights (c * total + e) nan) in
    omega (arith, length-append (hexadecimal bits) (weight_end channels c ∷ []), length-hexadecimal bits)

weights-length : (weights : List Float) (total e channels : ℕ) → length (weights_of weights total e channels) ≡ channels * 17
unfolding weights_of
weights-length weights total e channels =
    rows-length channels (weight_of weights total e channels)
    ∙ (total-is channels (λ c. length (weight_of weights total e channels c)) (λ c. 17) (λ c l. weight-length weights total e channels c) ∙ total-same channels 17)

module _ (t p a b channels : ℕ) (weights : List Float) (flags : List ℤ) where
  -- the digits of a line's four numbers, six bytes for the flag and the tabs, 17 for each weight
  line-bytes : (e : ℕ) → length (line_of p a b channels weights flags e) ≡ digits_of (e / b / a / p) + digits_of (e / b / a % p) + digits_of (e / b % a) + digits_of (e % b) + (6 + channels * 17)
  line-bytes e =
      omega (
        arith,
        line-length p a b channels weights flags e,
        front-lengths (e / b / a / p) (e / b / a % p) (e / b % a) (e % b) (flag_at flags e),
        number-length (e / b / a / p) 9,
        number-length (e / b / a % p) 9,
        number-length (e / b % a) 9,
        number-length (e % b) 9,
        number-length (flag_at flags e) 9,
        flag-digit flags e,
        weights-length weights (length flags) e channels,
      )

  column-digits : total (t * p * a * b) (λ e. digits_of (e / b / a / p) + digits_of (e / b / a % p) + digits_of (e / b % a) + digits_of (e % b)) ≡ columns t p a b
  unfolding columns digits_below
  column-digits =
      let f : ℕ → ℕ = λ e. digits_of (e / a / p) + digits_of (e / a % p) + digits_of (e % a) in
      let g : ℕ → ℕ = λ e. digits_of (e / p) + digits_of (e % p) in
      let x : total (t * p * a * b) (λ e. f (e / b) + digits_of (e % b)) ≡ b * total (t * p * a) f + t * p * a * total b digits_of = total-grid (t * p * a) b f digits_of in
      let y : total (t * p * a) f ≡ a * total (t * p) g + t * p * total a digits_of = total-grid (t * p) a g digits_of in
      let z : total (t * p) g ≡ p * total t digits_of + t * total p digits_of = total-grid t p digits_of digits_of in
      x ∙ (rw (y, z))

  pub listing-bytes : length flags ≡ t * p * a * b → length (listing_of p a b channels weights flags) ≡ 27 + columns t p a b + t * p * a * b * (6 + channels * 17)
  unfolding lines_of
  listing-bytes n =
      let d : ℕ → ℕ = λ e. digits_of (e / b / a / p) + digits_of (e / b / a % p) + digits_of (e / b % a) + digits_of (e % b) in
      let r : length (rows (length flags) (line_of p a b channels weights flags)) ≡ total (length flags) (λ e. d e + (6 + channels * 17)) =
      rows-length (length flags) (line_of p a b channels weights flags)
      ∙ total-is (length flags) (λ e. length (line_of p a b channels weights flags e)) (λ e. d e + (6 + channels * 17)) (λ e l. line-bytes e) in
      omega (
        arith,
        listing-length p a b channels weights flags,
        r,
        ap (λ (m : ℕ). total m (λ e. d e + (6 + channels * 17))) n,
        total-add (t * p * a * b) d (λ e. 6 + channels * 17),
        total-same (t * p * a * b) (6 + channels * 17),
        column-digits,
      )

  -- "at most 4,096 weights, channels counted"; a text of 16,384 bytes has at most 1,170 triplets and 712 points
  pub listing-longest : length flags ≡ t * p * a * b → channels * (t * p * a * b) ≤ 4096 → 0 < channels → t ≤ 1170 → p ≤ 712 → 0 < p → 0 < a → 0 < b → a ≤ 64 → b ≤ 64
      → length (listing_of p a b channels weights flags) ≤ 118617
  listing-longest n w c ht hp sp sa sb ha hb = go (lt-or-le 1 channels)
    where
      go : (1 < channels) ⊎ (channels ≤ 1) → length (listing_of p a b channels weights flags) ≤ 118617
      go (inl l) = omega (arith, listing-bytes n, w, mul-le-mul_right (t * p * a * b) l, four-columns t p a b sp sa sb ha hb (omega arith) (omega arith))
      go (inr l) =
          let q : channels ≡ 1 = omega arith in
          let k : channels * (t * p * a * b) ≡ 1 * (t * p * a * b) = ap (λ (m : ℕ). m * (t * p * a * b)) q in
          omega (arith, listing-bytes n, w, k, one-channel t p a b sp sa sb ha hb ht hp (omega (arith, w, k)))

-- 195 triplets, 21 points, one pair of bands and one channel have that length
pub longest-reached : (weights : List Float) (flags : List ℤ) → length flags ≡ 4095 → length (listing_of 21 1 1 1 weights flags) ≡ 118617
unfolding columns
longest-reached weights flags n =
    omega (arith, listing-bytes 195 21 1 1 1 weights flags n, below-is 195 (omega arith), below-is 21 (omega arith), below-is 1 (omega arith))

-- a refusal, whatever its number
pub refusal-short : (n : ℕ) → length (refusal_of n) ≤ 29
refusal-short n = omega (arith, refusal-length n, number-length n 10, places-le 19 n)
