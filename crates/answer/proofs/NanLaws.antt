-- A NaN's bit pattern in a text is a NaN, and question 11 says no to it. Assumes nothing.
use mathlib.Core.Path.{◌≡◌, refl, ap, ◌∙◌}
use mathlib.Core.Bool.{Bool, true, false, ◌&&◌, ◌||◌}
use mathlib.Core.List.{List}
use Prim.Native.Nat.{ℕ, ◌%◌, ◌<◌}
use native.Mathlib.Omega.{arith}
use lib.Ieee.{Float, nan, binary64, of_bits, eq, le, lt}
use lib.ListN.{length, get_or}
use Rattle.list_laws.specs.Lists.{all_below}
use Rattle.list_laws.proofs.BelowLaws.{below_at}
use Rattle.list_laws.proofs.FillLaws.{tabulate-at}
use Rattle.ieee_laws.specs.Magnitude.{absolute}
use Rattle.ieee_laws.proofs.PatternLaws.{nan-of-pattern}
use Rattle.question_values.specs.Frequencies.{in_range, are_in_range}
use Rattle.answer.specs.Texts.{floats_of}
use Rattle.answer.proofs.HeldLaws.{length-floats}

and-false : (b : Bool) → (b && false) ≡ false
and-false true = refl
and-false false = refl

nan-outside : (low high : Float) → in_range low high nan ≡ false
unfolding in_range absolute eq le
nan-outside low high = and-false (lt low nan || eq low nan)

float_at : (patterns : List ℕ) (k : ℕ) → k < length patterns → get_or (floats_of patterns) k nan ≡ of_bits binary64 (get_or patterns k 0)
unfolding floats_of
float_at patterns k h = tabulate-at (length patterns) (λ k. of_bits binary64 (get_or patterns k 0)) nan k h

-- a list with a NaN's pattern in it is out of every range
pub nan-refused : (low high : Float) (patterns : List ℕ) (k : ℕ) → k < length patterns → 9218868437227405312 < get_or patterns k 0 % 9223372036854775808 → are_in_range low high (floats_of patterns) ≡ false
unfolding are_in_range
nan-refused low high patterns k h n = go (all_below (length (floats_of patterns)) (λ k. in_range low high (get_or (floats_of patterns) k nan))) refl
  where
    here : in_range low high (get_or (floats_of patterns) k nan) ≡ false
    here = ap (in_range low high) (float_at patterns k h ∙ nan-of-pattern (get_or patterns k 0) n) ∙ nan-outside low high

    go : (b : Bool) → all_below (length (floats_of patterns)) (λ k. in_range low high (get_or (floats_of patterns) k nan)) ≡ b → b ≡ false
    go false e = refl
    go true e = cc (here, below_at (length (floats_of patterns)) (λ k. in_range low high (get_or (floats_of patterns) k nan)) e k (omega (arith, h, length-floats patterns)))
