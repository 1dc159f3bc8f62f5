-- How many bytes the sections of a study take at least, and so how many numbers a text can hold. Assumes nothing.
use Prim.Native.Nat.{ℕ, zero, suc, ◌+◌, ◌*◌, ◌/◌, ◌≤◌}
use mathlib.Core.Path.{◌≡◌, sym, ap}
use mathlib.Core.Bool.{Bool, true, false, cond}
use mathlib.Core.List.{List, [], ◌∷◌, ◌++◌}
use native.Mathlib.Nat.{zero-mul, suc-mul, mul-one}
use native.Mathlib.Omega.{arith}
use lib.Dec.{ltb}
use lib.IntN.{ℤ, pos, negsuc}
use lib.ListN.{length, take, drop, length-append, length-drop}
use lib.Seq.{length-take-le}
use Rattle.text.specs.Spelled.{places, signed, hexadecimal}
use Rattle.text.proofs.SpelledLaws.{length-decimal, length-hexadecimal}
use Rattle.study.specs.Studies.{StudyText, addr_tag, map_tag, f1_tag, f2_tag, point_tag, triplet_tag}
use Rattle.study_print.specs.Printed.{fields, line, section, text_of, head_lines, study_lines, printed, Printable}

places-some : (f n : ℕ) → 1 ≤ places f n
unfolding places
places-some zero n = omega arith
places-some (suc f) n = go (ltb n 10)
  where
    go : (t : Bool) → 1 ≤ cond t 1 (suc (places f (n / 10)))
    go true = omega arith
    go false = omega arith

signed-some : (z : ℤ) → 1 ≤ length (signed z)
unfolding signed
signed-some (pos n) = omega (arith, length-decimal n, places-some 19 n)
signed-some (negsuc n) = omega arith

pattern-length : (n : ℕ) → 16 ≤ length (hexadecimal n)
pattern-length n = omega (arith, length-hexadecimal n)

text_of-append : (ls ks : List (List ℕ)) → length (text_of (ls ++ ks)) ≡ length (text_of ls) + length (text_of ks)
unfolding text_of
text_of-append [] ks = omega arith
text_of-append (l ∷ ls) ks = omega (arith, text_of-append ls ks, length-append l (10 ∷ text_of (ls ++ ks)), length-append l (10 ∷ text_of ls))

-- values that take at least `least` bytes each
module _ {A : Type 0} (spell : A → List ℕ) (least : ℕ) (low : (v : A) → least ≤ length (spell v)) where
  fields-bytes : (vs : List A) → length vs * suc least ≤ length (fields spell vs)
  unfolding fields
  fields-bytes [] = omega (arith, zero-mul (suc least))
  fields-bytes (v ∷ vs) = omega (arith, fields-bytes vs, low v, length-append (spell v) (fields spell vs), suc-mul (length vs) (suc least))

  line-bytes : (tag : List ℕ) (vs : List A) → length tag + length vs * suc least ≤ length (line spell tag vs)
  unfolding line
  line-bytes tag vs = omega (arith, fields-bytes vs, length-append tag (fields spell vs))

  -- k rows of n values
  section-bytes : (tag : List ℕ) (n k : ℕ) (vs : List A) → length vs ≡ k * n → k * (length tag + n * suc least + 1) ≤ length (text_of (section spell tag n k vs))
  unfolding section text_of
  section-bytes tag n zero vs e = omega (arith, zero-mul (length tag + n * suc least + 1))
  section-bytes tag n (suc k) vs e =
      let q : length (take n vs) ≡ n = length-take-le n vs (omega (arith, e, suc-mul k n)) in
      let w : length (take n vs) * suc least ≡ n * suc least = ap (λ (m : ℕ). m * suc least) q in
      omega (
        arith,
        w,
        line-bytes tag (take n vs),
        section-bytes tag n k (drop n vs) (omega (arith, e, suc-mul k n, length-drop n vs)),
        suc-mul k (length tag + n * suc least + 1),
        length-append (line spell tag (take n vs)) (10 ∷ text_of (section spell tag n k (drop n vs))),
      )

-- how many numbers a study has at most
pub record Small (s : StudyText) : Type 0 where
  pub addresses : length s.addresses ≤ 16384
  pub gp-map : length s.gp-map ≤ 16384
  pub f1 : length s.f1 ≤ 16384
  pub f2 : length s.f2 ≤ 16384
  pub points : length s.points ≤ 712
  pub triplets : length s.triplets / 3 ≤ 1170

module _ (s : StudyText) where
  addresses-bytes : length s.addresses ≡ length s.addresses / 3 * 3 → length s.addresses / 3 * 11 ≤ length (text_of (section signed addr_tag 3 (length s.addresses / 3) s.addresses))
  addresses-bytes e = section-bytes signed 1 signed-some addr_tag 3 (length s.addresses / 3) s.addresses e

  map-bytes : length s.gp-map * 6 ≤ length (text_of (section signed map_tag 1 (length s.gp-map) s.gp-map))
  map-bytes = section-bytes signed 1 signed-some map_tag 1 (length s.gp-map) s.gp-map (sym (mul-one (length s.gp-map)))

  f1-bytes : length s.f1 * 20 ≤ length (text_of (section hexadecimal f1_tag 1 (length s.f1) s.f1))
  f1-bytes = section-bytes hexadecimal 16 pattern-length f1_tag 1 (length s.f1) s.f1 (sym (mul-one (length s.f1)))

  f2-bytes : length s.f2 * 20 ≤ length (text_of (section hexadecimal f2_tag 1 (length s.f2) s.f2))
  f2-bytes = section-bytes hexadecimal 16 pattern-length f2_tag 1 (length s.f2) s.f2 (sym (mul-one (length s.f2)))

  points-bytes : length s.points * 23 ≤ length (text_of (section hexadecimal point_tag 1 (length s.points) s.points))
  points-bytes = section-bytes hexadecimal 16 pattern-length point_tag 1 (length s.points) s.points (sym (mul-one (length s.points)))

  triplets-bytes : length s.triplets ≡ length s.triplets / 3 * 3 → length s.triplets / 3 * 14 ≤ length (text_of (section signed triplet_tag 3 (length s.triplets / 3) s.triplets))
  triplets-bytes e = section-bytes signed 1 signed-some triplet_tag 3 (length s.triplets / 3) s.triplets e

  -- each section by what its rows take at least
  all-bytes : Printable s → length s.addresses / 3 * 11 + length s.gp-map * 6 + length s.f1 * 20 + length s.f2 * 20 + length s.points * 23 + length s.triplets / 3 * 14 ≤ 16384
  unfolding printed study_lines
  all-bytes p =
      let t : List (List ℕ) = section signed triplet_tag 3 (length s.triplets / 3) s.triplets in
      let k : List (List ℕ) = section hexadecimal point_tag 1 (length s.points) s.points in
      let b : List (List ℕ) = section hexadecimal f2_tag 1 (length s.f2) s.f2 in
      let a : List (List ℕ) = section hexadecimal f1_tag 1 (length s.f1) s.f1 in
      let m : List (List ℕ) = section signed map_tag 1 (length s.gp-map) s.gp-map in
      let d : List (List ℕ) = section signed addr_tag 3 (length s.addresses / 3) s.addresses in
      omega (
        arith,
        p.short,
        addresses-bytes p.whole-addresses,
        map-bytes,
        f1-bytes,
        f2-bytes,
        points-bytes,
        triplets-bytes p.whole-triplets,
        text_of-append k t,
        text_of-append b (k ++ t),
        text_of-append a (b ++ (k ++ t)),
        text_of-append m (a ++ (b ++ (k ++ t))),
        text_of-append d (m ++ (a ++ (b ++ (k ++ t)))),
        text_of-append (head_lines s.head) (d ++ (m ++ (a ++ (b ++ (k ++ t))))),
      )

  pub study-small : Printable s → Small s
  study-small p = record {
    addresses = omega (arith, all-bytes p, p.whole-addresses);
    gp-map = omega (arith, all-bytes p);
    f1 = omega (arith, all-bytes p);
    f2 = omega (arith, all-bytes p);
    points = omega (arith, all-bytes p);
    triplets = omega (arith, all-bytes p);
  }
