-- What a buffer holds before a call, so that a refused call is seen to leave it as it was.
use Rattle.std.specs.Prelude.{Bool, cond, List, ℕ, ◌+◌, ◌%◌, eqb, Float, ℤ, pos, length, get_or}
use Rattle.std.specs.Float.{nan, binary64}
use Rattle.std.specs.Float.Ieee.{of_bits, to_bits}
use Rattle.list_laws.specs.Lists.{all_below, at}
use Rattle.list_laws.specs.Signed.{eq_z}

-- whole numbers, by their place: no grid point's number and no component of a table here is so large
unfoldable pub stamp_at : ℕ → ℤ
stamp_at k = pos (5000000 + k % 1000)

-- a buffer holds them
unfoldable pub is_stamped : List ℤ → Bool
is_stamped out = all_below (length out) (λ k. eq_z (at out k) (stamp_at k))

-- floats, by their place: 1.5e300 and 2.5e300 in turn; no weight is so large
unfoldable pub mark_at : ℕ → Float
mark_at k = cond (eqb (k % 2) 0) (of_bits binary64 0x7e41_eb2d_6600_5835) (of_bits binary64 0x7e4d_dd4b_aa00_9303)

-- a buffer holds them, by their bits
unfoldable pub is_marked : List Float → Bool
is_marked out = all_below (length out) (λ k. eqb (to_bits binary64 (get_or out k nan)) (to_bits binary64 (mark_at k)))
