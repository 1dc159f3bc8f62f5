-- Sums over numbers below a bound.
use Rattle.std.specs.Prelude.{ℕ, zero, suc, ◌+◌}
use Rattle.text.specs.Spelled.{places}

-- f 0 + f 1 + .. + f (n - 1)
unfoldable pub total : ℕ → (ℕ → ℕ) → ℕ
total zero f = 0
total (suc n) f = total n f + f n

-- how many decimal digits n has
abbrev pub digits_of : ℕ → ℕ
digits_of n = places 19 n

-- how many digits the numbers below n have together
unfoldable pub digits_below : ℕ → ℕ
digits_below n = total n digits_of
