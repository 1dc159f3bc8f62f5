-- Digits and fields followed byte by byte, as a loop over the text does. Assumes nothing.
use Prim.Native.Nat.{ℕ, zero, suc, ◌+◌, ◌-◌, ◌*◌, ◌%◌, ◌^◌, ◌≤◌, ◌<◌, min}
use mathlib.Core.Path.{◌≡◌, refl, ap, ◌∙◌}
use mathlib.Core.List.{List, [], ◌∷◌, ◌++◌}
use native.Mathlib.Numerals.{add-one}
use native.Mathlib.Omega.{arith}
use lib.IntN.{ℤ, pos, negsuc, ◌-ℤ◌}
use lib.Ieee.{Float}
use lib.ListN.{length, get_or, take, drop, set, length-drop}
use lib.Seq.{drop-cons, length-take-le}
use borrow.Author.Tests.{lt-ltb, le-ltb, eq-eqb, ne_eqb}
use mir.Syntax.{w64}
use mir.Val.{to_z, of_z, SFits}
use mir.Facts.{to_z_pos, to_z-of_z}
use Rattle.replay_input.specs.Fields.{spelled, passed, count_at, after_count, after_bits, negated, plain, whole_at, after_whole, field_place, whole_from, real_at, real_from, value_from, ListRead, WholesRead, RealsRead}
use Rattle.list_laws.specs.Lists.{fronted, tabulate}
use Rattle.text.specs.Fields.{digit_of}
use Rattle.list_laws.proofs.FillLaws.{front-next}

-- ---- digits up to the byte that ends them

length-zero : (s : List ℕ) → length s ≡ 0 → s ≡ []
length-zero [] e = refl
length-zero (b ∷ s) e = absurd (omega (arith, e))

drop_past : (s : List ℕ) (i : ℕ) → length s ≤ i → drop i s ≡ []
drop_past s i h = length-zero (drop i s) (omega (arith, length-drop i s))

module _ (base room : ℕ) (s : List ℕ) (i n : ℕ) where
  pub spelled-end : length s ≤ i → spelled base room (drop i s) n ≡ n
  unfolding spelled
  spelled-end h = rw (drop_past s i h)

  pub passed-end : length s ≤ i → i + passed base (drop i s) ≡ i
  unfolding passed
  passed-end h = rw (drop_past s i h) (omega arith)

  module _ (d : ℕ) (h : i < length s) (e : d ≡ digit_of (get_or s i 0)) where
    pub spelled_step : d < base → spelled base room (drop i s) n ≡ spelled base room (drop (i + 1) s) (n % room * base + d)
    unfolding spelled
    spelled_step l = rw (e, add-one, drop-cons s i 0) (simp (lt-ltb (digit_of (get_or s i 0)) base (rw e at l)))

    pub spelled-stop : base ≤ d → spelled base room (drop i s) n ≡ n
    unfolding spelled
    spelled-stop l = rw (drop-cons s i 0) (simp (le-ltb (digit_of (get_or s i 0)) base (rw e at l)))

    passed-more : d < base → passed base (drop i s) ≡ suc (passed base (drop (i + 1) s))
    unfolding passed
    passed-more l = rw (add-one, drop-cons s i 0) (simp (lt-ltb (digit_of (get_or s i 0)) base (rw e at l)))

    passed-last : base ≤ d → passed base (drop i s) ≡ 1
    unfolding passed
    passed-last l = rw (drop-cons s i 0) (simp (le-ltb (digit_of (get_or s i 0)) base (rw e at l)))

    pub passed-step : d < base → i + passed base (drop i s) ≡ (i + 1) + passed base (drop (i + 1) s)
    passed-step l = omega (arith, passed-more l)

    pub passed-stop : base ≤ d → i + passed base (drop i s) ≡ i + 1
    passed-stop l = omega (arith, passed-last l)

-- ---- a sign before a magnitude

-- -1 - n, as the machine computes it
minus-one-minus : (n : ℕ) → negsuc 0 -ℤ pos n ≡ negsuc n
minus-one-minus zero = refl
minus-one-minus (suc n) = ap negsuc (omega arith)

pub minus-fits : (n : ℕ) → n < 2 ^ 63 → SFits w64 (negsuc 0 -ℤ to_z w64 n)
minus-fits n h = rw (to_z_pos w64 {n = n} h, minus-one-minus) (record { sfits = h })

module _ (n : ℕ) where
  pub plain-is : to_z w64 (n % 2 ^ 63) ≡ plain n
  unfolding plain
  plain-is = to_z_pos w64 {n = n % 2 ^ 63} (omega arith)

  pub negated-zero : n ≡ 0 → pos 0 ≡ negated n
  unfolding negated
  negated-zero e = simp (eq-eqb n 0 e)

  pub negated-is : (n ≡ 0 → ⊥) → to_z w64 (of_z w64 (negsuc 0 -ℤ to_z w64 ((n - 1) % 2 ^ 63))) ≡ negated n
  unfolding negated
  negated-is z =
      rw (to_z-of_z (minus-fits ((n - 1) % 2 ^ 63) (omega arith)), to_z_pos w64 {n = (n - 1) % 2 ^ 63} (omega arith), minus-one-minus ((n - 1) % 2 ^ 63))
      (simp (ne_eqb n 0 z))

-- ---- fields one after the other

module _ {A : Type 0} (l : List A) where
  pub list-next : (f : ℕ → A) {out : List A} (i : ℕ) {v : A} → i < length l → out ≡ fronted i f l → v ≡ f i → set out i v ≡ fronted (i + 1) f l
  list-next f i {v} h e w = rw e (front-next f l i v h w)

-- a list read is one of whole numbers, or of floats
pub wholes-read : (text : List ℕ) (at : ℕ) (a b : List ℤ) (n next : ℕ) → ListRead whole_at after_whole text at a b n next → WholesRead text at a b n next
unfolding ListRead WholesRead value_from whole_from
wholes-read text at a b n next h = h

pub reals-read : (text : List ℕ) (at : ℕ) (a b : List Float) (n next : ℕ) → ListRead real_at after_bits text at a b n next → RealsRead text at a b n next
unfolding ListRead RealsRead value_from real_at real_from
reals-read text at a b n next h = h

module _ {A : Type 0} (value : List ℕ → ℕ → A) (after : List ℕ → ℕ → ℕ) (text : List ℕ) (at : ℕ) (old : List A) where
  -- a list read: its count, and then as many numbers to the front of the buffer
  pub list-read : {given count front : ℕ} {new : List A} → given ≡ count_at text at → count ≡ min given (length old) → front ≡ after_count text at
      → new ≡ tabulate (length (take count old)) (value_from value after text front) → ListRead value after text at old (new ++ drop count old) count (field_place (after text) front (length (take count old)))
  unfolding ListRead fronted
  list-read {given} {count} {front} e w f h =
      let n : length (take count old) ≡ count = length-take-le count old (omega (arith, w)) in
      (w ∙ ap (λ (k : ℕ). min k (length old)) e, rw (n, f), rw (h, n, f))
