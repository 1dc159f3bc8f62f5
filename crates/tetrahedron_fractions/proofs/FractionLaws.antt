-- A difference is under 1e-10 in magnitude where it lies between -1e-10 and 1e-10. Assumes nothing.
use mathlib.Core.Path.{◌≡◌}
use mathlib.Core.Bool.{◌&&◌}
use lib.Ieee.{Float, binary64, of_bits, lt}
use Rattle.ieee_laws.proofs.OrderLaws.{under-both-ways}
use Rattle.tetrahedron_fractions.specs.Binary64.{epsilon}
use Rattle.tetrahedron_fractions.specs.Fraction.{is_small}

-- -1e-10
abbrev pub minus-epsilon : Float
minus-epsilon = of_bits binary64 0xbddb_7cdf_d9d7_bdbb

pub small_is : (x : Float) → is_small x ≡ (lt x epsilon && lt minus-epsilon x)
unfolding is_small of_bits
small_is x = under-both-ways x _ _
