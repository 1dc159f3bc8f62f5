-- Numbers printed and read back. Assumes nothing.
use Prim.Native.Nat.{ℕ, zero, suc, ◌+◌, ◌/◌, ◌%◌, ◌^◌, ◌≤◌, ◌<◌}
use mathlib.Core.Path.{◌≡◌, refl}
use mathlib.Core.Bool.{Bool, true, false, cond}
use mathlib.Core.List.{[], ◌∷◌}
use native.Mathlib.Omega.{arith}
use lib.Dec.{ltb, eqb}
use lib.IntN.{ℤ, pos, negsuc}
use lib.Signed.{mag}
use borrow.Author.Tests.{ne_eqb}
use Rattle.io.specs.Digits.{hex_digit_ascii, last_digits}
use Rattle.text.specs.Spelled.{places, decimal, signed, hexadecimal}
use Rattle.text.proofs.RoundTrip.{plain, minus, whole-read, bits-read}
use Rattle.text.proofs.SpelledLaws.{places-fewest}
use Rattle.sections.specs.Lines.{whole_field, pattern_field}
use Rattle.study_print.proofs.LineLaws.{absent, absent-append, Spells}

glyph-above : (d : ℕ) → 48 ≤ hex_digit_ascii d
glyph-above d = go (ltb d 10)
  where
    go : (t : Bool) → 48 ≤ cond t (48 + d) (87 + d)
    go true = omega arith
    go false = omega arith

-- a byte below the digits stands in no number
absent-digits : (b base k n : ℕ) → b < 48 → absent b (last_digits base k n) ≡ true
unfolding absent
absent-digits b base zero n h = refl
absent-digits b base (suc k) n h = absent-append b (last_digits base k (n / base)) (hex_digit_ascii (n % base) ∷ []) (absent-digits b base k (n / base) h) (one (n % base))
  where
    one : (d : ℕ) → cond (eqb (hex_digit_ascii d) b) false true ≡ true
    one d = rw (ne_eqb (hex_digit_ascii d) b (λ e. omega (arith, e, h, glyph-above d)))

-- a signed number of 64 bits
pub spells-signed : (z : ℤ) → mag z < 2 ^ 63 → Spells whole_field signed z
unfolding signed decimal absent
spells-signed (pos n) h = record {
  read_back = whole-read (pos n) (last_digits 10 (places 19 n) n) (plain h (places-fewest 19 n (omega arith)));
  no-tab = absent-digits 9 10 (places 19 n) n (omega arith);
  no-newline = absent-digits 10 10 (places 19 n) n (omega arith);
}
spells-signed (negsuc n) h = record {
  read_back = whole-read (negsuc n) (45 ∷ last_digits 10 (places 19 (suc n)) (suc n)) (minus h (places-fewest 19 (suc n) (omega arith)));
  no-tab = absent-digits 9 10 (places 19 (suc n)) (suc n) (omega arith);
  no-newline = absent-digits 10 10 (places 19 (suc n)) (suc n) (omega arith);
}

-- a bit pattern
pub spells-pattern : (n : ℕ) → n < 2 ^ 64 → Spells pattern_field hexadecimal n
unfolding hexadecimal
spells-pattern n h = record {
  read_back = bits-read n h;
  no-tab = absent-digits 9 16 16 n (omega arith);
  no-newline = absent-digits 10 16 16 n (omega arith);
}
