-- Passing over the parts of a line: one law for each way that the code answers. Assumes nothing.
use Prim.Native.Nat.{ℕ, ◌+◌, ◌*◌, ◌^◌, ◌<◌}
use mathlib.Core.Path.{◌≡◌, refl, sym, ap, ◌∙◌}
use mathlib.Core.Bool.{Bool, true, false, cond}
use mathlib.Core.List.{List, [], ◌∷◌, ◌++◌}
use native.Mathlib.Numerals.{add-one}
use native.Mathlib.Omega.{arith}
use lib.Dec.{eqb, lit<}
use lib.Ieee.{Float, nan, binary64, of_bits, to_bits}
use lib.Ieee.Bits.{to_bits-lt, of_bits-fits}
use lib.ListN.{length, get_or, take, drop, length-append}
use borrow.Author.Tests.{eq-eqb, ne_eqb}
use Rattle.list_laws.specs.Lists.{rows}
use Rattle.list_laws.proofs.BoolLaws.{clash}
use Rattle.list_laws.proofs.FillLaws.{length-rows}
use Rattle.std.specs.Prelude.{Option, Some, None}
use Rattle.text.specs.Fields.{bits}
use Rattle.text.specs.Spelled.{places, decimal, hexadecimal}
use Rattle.text.proofs.RoundTrip.{bits-read, bits-only}
use Rattle.text.proofs.SpelledLaws.{length-hexadecimal}
use Rattle.listing.specs.Listings.{number, weight_end, weight_text}
use Rattle.reading.specs.Passes.{Passes}
use Rattle.reading.specs.declared.kernel.Reader.{Reader}
use Rattle.reading.proofs.PassedLaws.{Stand, stand-first}
use Rattle.reading.proofs.ReaderLaws.{passes-lost, passes_then}
use Rattle.listing_line.specs.declared.Place.{Place}
use Rattle.listing_line.specs.Lines.{numbers_of, flag_here, float_of, weight_here, weights_here, line_here}

-- ---- the flag

pub number-zero : number 0 9 ≡ (48 ∷ []) ++ (9 ∷ [])
unfolding decimal places
number-zero = refl

pub number-one : number 1 9 ≡ (49 ∷ []) ++ (9 ∷ [])
unfolding decimal places
number-one = refl

-- a flag and its tab are two bytes, whatever says that it is 0
pub two-bytes : (zero : Bool) → length (number (cond zero 0 1) 9) ≡ 2
two-bytes true = ap length number-zero
two-bytes false = ap length number-one

module _ (text : List ℕ) (at : ℕ) where
  pub flag-zero : get_or text at 0 ≡ 48 → flag_here text at ≡ 0
  unfolding flag_here
  flag-zero e = rw (eq-eqb (get_or text at 0) 48 e)

  pub flag_one : (get_or text at 0 ≡ 48 → ⊥) → flag_here text at ≡ 1
  unfolding flag_here
  flag_one n = rw (ne_eqb (get_or text at 0) 48 n)

  -- the digit of the flag, and its tab
  pub digit-zero : get_or text at 0 ≡ 48 → (48 ∷ []) ++ (9 ∷ []) ≡ number (flag_here text at) 9
  digit-zero e = rw (flag-zero e) (sym number-zero)

  pub digit-one : (get_or text at 0 ≡ 48 → ⊥) → (49 ∷ []) ++ (9 ∷ []) ≡ number (flag_here text at) 9
  digit-one n = rw (flag_one n) (sym number-one)

-- ---- the pattern of a weight

pub nan-bits : to_bits binary64 nan ≡ 9221120237041090560
unfolding to_bits
nan-bits = refl

-- every weight that stands in a text has a pattern of 64 bits
pattern-of : (m : Option ℕ) → to_bits binary64 (float_of m) < 2 ^ 64
pattern-of (Some n) = to_bits-lt binary64 (of_bits binary64 n) (of_bits-fits binary64 n)
pattern-of None = rw nan-bits (lit< tt)

-- ---- a weight

pub weight-length : (x : Float) (end : ℕ) → length (weight_text x end) ≡ 17
weight-length x end = length-append (hexadecimal (to_bits binary64 x)) (end ∷ []) ∙ omega (arith, length-hexadecimal (to_bits binary64 x))

spelled-only : (s : List ℕ) (n : ℕ) → bits s ≡ Some n → s ≡ hexadecimal n
unfolding hexadecimal
spelled-only s n e = bits-only s n e

-- where the digits of 64 bits stand, those bits are read
pub spelled-read : (n end at : ℕ) (text : List ℕ) → n < 2 ^ 64 → Stand (hexadecimal n ++ (end ∷ [])) at text → bits (take 16 (drop at text)) ≡ Some n
unfolding hexadecimal
spelled-read n end at text h s =
    ap bits (ap (λ (k : ℕ). take k (drop at text)) (sym (length-hexadecimal n)) ∙ stand-first (hexadecimal n) (end ∷ []) at text s) ∙ bits-read n h

module _ (text : List ℕ) (at end : ℕ) (m : Option ℕ) (e : m ≡ bits (take 16 (drop at text))) where
  pub weight_is : float_of m ≡ weight_here text at
  unfolding weight_here
  weight_is = ap float_of e

  -- what stands there, if it does, was read
  stood : Stand (weight_text (weight_here text at) end) at text → m ≡ Some (to_bits binary64 (weight_here text at))
  stood s = e ∙ spelled-read (to_bits binary64 (weight_here text at)) end at text (rw (sym weight_is) (pattern-of m)) s

  pub weight-bad : m ≡ None → Stand (weight_text (weight_here text at) end) at text → ⊥
  weight-bad b s = absurd (let z : ◌≡◌ {A = ℕ} 0 1 = unlike (sym b ∙ stood s) in omega (arith, z))
    where
      unlike : {n : ℕ} → None ≡ Some n → ◌≡◌ {A = ℕ} 0 1
      unlike q = cc

  module _ (pattern : ℕ) (i : m ≡ Some pattern) where
    here-is : weight_here text at ≡ of_bits binary64 pattern
    here-is = sym weight_is ∙ ap float_of i

    pub weight-unprinted : false ≡ eqb (to_bits binary64 (of_bits binary64 pattern)) pattern → Stand (weight_text (weight_here text at) end) at text → ⊥
    weight-unprinted p s =
        let q : to_bits binary64 (of_bits binary64 pattern) ≡ pattern = ap (to_bits binary64) (sym here-is) ∙ same-pattern (sym (stood s) ∙ i) in
        clash (p ∙ eq-eqb (to_bits binary64 (of_bits binary64 pattern)) pattern q)
      where
        same-pattern : {a b : ℕ} → Some a ≡ Some b → a ≡ b
        same-pattern q = cc

    pub weight-printed : to_bits binary64 (of_bits binary64 pattern) ≡ pattern → hexadecimal pattern ++ (end ∷ []) ≡ weight_text (weight_here text at) end
    weight-printed p = ap (λ (n : ℕ). hexadecimal n ++ (end ∷ [])) (sym (ap (to_bits binary64) here-is ∙ p))

    pub pattern-stands : Stand (hexadecimal pattern) at text
    pattern-stands = ap (λ (k : ℕ). take k (drop at text)) (length-hexadecimal pattern) ∙ spelled-only (take 16 (drop at text)) pattern (sym e ∙ i)

-- ---- the weights of a line

-- what the writer prints for the weight of a channel, of those from an index on
abbrev pub weight_there : ℕ → List ℕ → ℕ → ℕ → List ℕ
weight_there channels text at c = weight_text (weight_here text (at + 17 * c)) (weight_end channels c)

weights-length : (channels : ℕ) (text : List ℕ) (at n : ℕ) → length (rows n (weight_there channels text at)) ≡ n * 17
weights-length channels text at n = length-rows n 17 (weight_there channels text at) (λ c l. weight-length (weight_here text (at + 17 * c)) (weight_end channels c))

-- one channel more
pub weights-next : (channels : ℕ) {u v w : Reader} {r : Option (Unit {0})} (c end : ℕ) → Passes (rows c (weight_there channels u.text.now u.at)) u v (Some (tt {0})) → end ≡ weight_end channels c
    → Passes (weight_text (weight_here v.text.now v.at) end) v w r → Passes (rows (c + 1) (weight_there channels u.text.now u.at)) u w r
unfolding rows
weights-next channels {u} {v} {w} {r} c end p e q =
    let place : u.at + length (rows c (weight_there channels u.text.now u.at)) ≡ u.at + 17 * c = omega (arith, weights-length channels u.text.now u.at c) in
    rw add-one
    (rw place at (passes_then (rows c (weight_there channels u.text.now u.at)) (λ text k. weight_text (weight_here text k) (weight_end channels c)) p (rw e at q)))

-- ---- the line

-- numbers, a flag and weights, one behind the other
module _ (place : Place) (channels : ℕ) {u v : Reader} (p : Passes (numbers_of place) u v (Some (tt {0}))) where
  flagged : {w : Reader} {r : Option (Unit {0})} → Passes (number (flag_here v.text.now v.at) 9) v w r → Passes (numbers_of place ++ number (flag_here u.text.now (u.at + length (numbers_of place))) 9) u w r
  flagged q = passes_then (numbers_of place) (λ text k. number (flag_here text k) 9) p q

  pub no-flag : {w : Reader} → Passes (number (flag_here v.text.now v.at) 9) v w None → Passes (line_here place channels u.text.now u.at) u w None
  unfolding line_here
  no-flag q = passes-lost _ _ (flagged q)

  pub line-passes : {w x : Reader} {r : Option (Unit {0})} → Passes (number (flag_here v.text.now v.at) 9) v w (Some (tt {0})) → Passes (weights_here channels w.text.now w.at) w x r
      → Passes (line_here place channels u.text.now u.at) u x r
  unfolding line_here flag_here
  line-passes q s =
      let n : List ℕ = numbers_of place in
      let flag : List ℕ = number (flag_here u.text.now (u.at + length n)) 9 in
      let e : u.at + length (n ++ flag) ≡ u.at + length n + 2 = omega (arith, length-append n flag, two-bytes (eqb (get_or u.text.now (u.at + length n) 0) 48)) in
      rw e at (passes_then (n ++ flag) (weights_here channels) (flagged q) s)

-- what `grind` is given at a function
pub ruleset flag_laws = (flag-zero, flag_one)
