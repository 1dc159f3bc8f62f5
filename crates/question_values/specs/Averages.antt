-- Questions 17 and 19: the id lists of degenerate sets, and the weights that are averaged.
use Rattle.std.specs.Prelude.{Bool, not, ◌&&◌, ◌||◌, List, ℕ, zero, suc, eqb, ℤ, length, get_or, Float}
use Rattle.std.specs.Float.{nan, binary64}
use Rattle.std.specs.Float.Ieee.{of_bits, le}
use Rattle.list_laws.specs.Lists.{all_below, at}
use Rattle.list_laws.specs.Signed.{eq_z, is_nat}
use Rattle.ieee_laws.specs.Magnitude.{absolute}
use Rattle.ieee_laws.specs.Zeros.{is_negative_zero}

-- "each id its own place or the id before it": the id at one place; before place 0 there is none
unfoldable pub is_degenerate_id : List ℤ → ℕ → Bool
is_degenerate_id ids zero = is_nat (at ids zero) zero
is_degenerate_id ids (suc k) = is_nat (at ids (suc k)) (suc k) || eq_z (at ids (suc k)) (at ids k)

-- Question 17, of one list: as many ids as bands
unfoldable pub are_degenerate_ids : ℕ → List ℤ → Bool
are_degenerate_ids bands ids = eqb (length ids) bands && all_below bands (is_degenerate_id ids)

-- 2^60
abbrev pub weight_limit : Float
weight_limit = of_bits binary64 0x43B0_0000_0000_0000

-- "finite, magnitude at most 2^60, none a negative zero": one weight
unfoldable pub is_weight : Float → Bool
is_weight x = le (absolute x) weight_limit && not (is_negative_zero x)

-- Question 19
unfoldable pub are_weights : List Float → Bool
are_weights w = all_below (length w) (λ k. is_weight (get_or w k nan))
