-- The rational numbers: fractions of integers, two of them the same where their cross products are.
use Rattle.std.specs.Prelude.{◌≡◌, Bool, true, false, zero, suc, T, ℤ, pos, negsuc, ◌*ℤ◌}
use mathlib.Core.Quot.{Quot}

abbrev pub is_positive : ℤ → Bool
is_positive (pos zero) = false
is_positive (pos (suc n)) = true
is_positive (negsuc n) = false

-- a fraction: its denominator is positive
pub record Fraction : Type 0 where
  pub num : ℤ
  pub den : ℤ
  pub positive : T (is_positive den)

abbrev pub Same : Fraction → Fraction → Type 0
Same x y = x.num *ℤ y.den ≡ y.num *ℤ x.den

abbrev pub Rational : Type 0
Rational = Quot Same
