-- A channel, as std's methods see it. Assumes nothing.
use mathlib.Core.Path.{◌≡◌, refl}
use mathlib.Core.Bool.{Bool, true, false, not, cond}
use lib.Ieee.{Float}
use lib.IntN.{pos}
use mir.Val.{bool_byte}
use Rattle.std.proofs.Common.{Option, Some, None}
use Rattle.std.specs.Option.{is_some, unwrap_or}
use Rattle.ieee_laws.specs.Zeros.{zero_f}
use Rattle.triplet_outputs.specs.Outputs.{value_of, closed_of}

pub value_is : (o : Option Float) → unwrap_or o zero_f ≡ value_of o
value_is None = refl
value_is (Some weight) = refl

pub closed_is : (o : Option Float) (b : Bool) → is_some o ≡ not b → b ≡ closed_of o
closed_is None true e = refl
closed_is None false e = absurd (cc e)
closed_is (Some weight) true e = absurd (cc e)
closed_is (Some weight) false e = refl

-- a test as a number
pub byte_is : (b : Bool) → pos (bool_byte b) ≡ cond b (pos 1) (pos 0)
byte_is true = refl
byte_is false = refl
