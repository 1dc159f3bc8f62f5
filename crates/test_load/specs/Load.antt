-- Request 1: test frequencies from a start.
use Rattle.std.specs.Prelude.{List, ℕ, zero, suc, ◌+◌, ◌*◌, ◌/◌, ◌%◌, ◌^◌, ◌<◌, pos, Float}
use Rattle.std.specs.Float.{binary64}
use Rattle.std.specs.Float.Ieee.{of_int, div}
use Rattle.list_laws.specs.Lists.{tabulate}

-- "a 32-bit number"
abbrev pub IsNumber : ℕ → Type 0
IsNumber x = x < 2 ^ 32

-- "becomes 1664525 times itself plus 1013904223, modulo 2^32"
unfoldable pub next : ℕ → ℕ
next x = (1664525 * x + 1013904223) % 2 ^ 32

-- the number after so many steps
unfoldable pub after : ℕ → ℕ → ℕ
after start zero = start
after start (suc n) = next (after start n)

-- "The frequency is its upper 16 bits as a whole number divided by 4096."
unfoldable pub frequency : ℕ → Float
frequency x = div binary64 (of_int binary64 (pos (x / 2 ^ 16))) (of_int binary64 (pos 4096))

-- frequency k, from 0, of the chain: a step comes before each is read
abbrev pub frequency_at : ℕ → ℕ → Float
frequency_at start k = frequency (after start (suc k))

-- the n of them from place `from` on: "One start .. fills the first frequency record, then the second, then the points"
unfoldable pub frequencies_from : ℕ → ℕ → ℕ → List Float
frequencies_from start from n = tabulate n (λ k. frequency_at start (from + k))
