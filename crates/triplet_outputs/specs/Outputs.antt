-- Whether a channel is open, and the outputs of three channels.
use Rattle.std.specs.Prelude.{Bool, true, false, ◌&&◌, cond, ℤ, pos, Float, Option, Some, None}
use Rattle.std.specs.Float.Ieee.{le}
use Rattle.ieee_laws.specs.Zeros.{zero_f}
use Rattle.tetrahedron_fractions.specs.Binary64.{◌⊕◌, ◌⊖◌}
use Rattle.triplet_types.specs.declared.TpType.{TpType}
use Rattle.triplet_types.specs.declared.TpType.TheVariants.{Type2, Type3, Type4}
use Rattle.triplet_values.specs.declared.ValueBox.{ValueBox}
use Rattle.triplet_outputs.specs.declared.Outputs.{Outputs}

-- "open when the point lies in the box, ends included"
abbrev pub holds : ValueBox → Float → Bool
holds b w = le b.fmin w && le w b.fmax

-- a channel is closed, `None`, or open with its weight; g0, g1, g2: "0 when closed"
abbrev pub value_of : Option Float → Float
value_of None = zero_f
value_of (Some weight) = weight

-- whether a channel is closed
abbrev pub closed_of : Option Float → Bool
closed_of None = true
closed_of (Some weight) = false

-- "The flag is 1 when all are closed."
unfoldable pub flag_of : Option Float → Option Float → Option Float → ℤ
flag_of a b c = cond ((closed_of a && closed_of b) && closed_of c) (pos 1) (pos 0)

-- "type 2 gives g2, g0-g1; type 3 adds (g0+g1)+g2; type 4 gives g0"
unfoldable pub outputs_by : TpType → Option Float → Option Float → Option Float → Outputs
outputs_by Type2 a b c = record { w0 = value_of c; w1 = value_of a ⊖ value_of b; w2 = zero_f; flag = flag_of a b c }
outputs_by Type3 a b c = record { w0 = value_of c; w1 = value_of a ⊖ value_of b; w2 = (value_of a ⊕ value_of b) ⊕ value_of c; flag = flag_of a b c }
outputs_by Type4 a b c = record { w0 = value_of a; w1 = zero_f; w2 = zero_f; flag = flag_of a b c }
