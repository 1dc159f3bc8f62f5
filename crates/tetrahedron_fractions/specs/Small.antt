-- The test that a float is small.
use Rattle.std.specs.Prelude.{Bool, Float}
use Rattle.std.specs.Float.Ieee.{lt}
use Rattle.ieee_laws.specs.Magnitude.{absolute}
use Rattle.tetrahedron_fractions.specs.Binary64.{epsilon}

-- under 1e-10 in magnitude
unfoldable pub is_small : Float → Bool
is_small x = lt (absolute x) epsilon
