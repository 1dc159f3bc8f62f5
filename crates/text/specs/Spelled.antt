-- Numbers as a text spells them.
use Rattle.std.specs.Prelude.{ℕ, zero, suc, ◌/◌, cond, List, ◌∷◌, ltb, ℤ, pos, negsuc}
use Rattle.io.specs.Digits.{last_digits}

-- how many decimal digits n has, for an n below 10 ^ (f + 1)
unfoldable pub places : ℕ → ℕ → ℕ
places zero n = 1
places (suc f) n = cond (ltb n 10) 1 (suc (places f (n / 10)))

-- a number of 64 bits in decimal, "without plus, leading zeros"
unfoldable pub decimal : ℕ → List ℕ
decimal n = last_digits 10 (places 19 n) n

-- a whole number in "signed 64-bit decimal": a minus sign (the byte 45) before a negative one
unfoldable pub signed : ℤ → List ℕ
signed (pos n) = decimal n
signed (negsuc n) = 45 ∷ decimal (suc n)

-- "16 hexadecimal digits of their bits", "hexadecimal letters small"
unfoldable pub hexadecimal : ℕ → List ℕ
hexadecimal n = last_digits 16 16 n
