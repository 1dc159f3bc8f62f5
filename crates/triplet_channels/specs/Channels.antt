-- Channels and outputs at a frequency point.
use Rattle.std.specs.Prelude.{cond, List, ℕ, ◌*◌, Float, Option, Some, None}
use Rattle.tetrahedron_method.specs.Weight.{weight_of}
use Rattle.tetrahedron_method.specs.declared.WeightFunction.TheVariants.{I}
use Rattle.triplet_types.specs.declared.TpType.{TpType}
use Rattle.triplet_types.specs.declared.TpType.TheVariants.{Type2, Type3, Type4}
use Rattle.triplet_values.specs.Values.{box_of}
use Rattle.triplet_outputs.specs.declared.Outputs.{Outputs}
use Rattle.triplet_outputs.specs.Outputs.{holds, outputs_by}

-- "a channel is closed, or open with its weight I", of values in so many rows of four
unfoldable pub channel_at : Float → List Float → ℕ → Option Float
channel_at w a rows = cond (holds (box_of a (rows * 4)) w) (Some (weight_of I w a rows)) None

-- the second and the third channel: "type 4: the first alone"
unfoldable pub further_at : TpType → Float → List Float → ℕ → Option Float
further_at Type2 w a rows = channel_at w a rows
further_at Type3 w a rows = channel_at w a rows
further_at Type4 w a rows = None

-- the outputs at a point of channels with the values a0, a1, a2
unfoldable pub outputs_at : TpType → Float → List Float → List Float → List Float → ℕ → Outputs
outputs_at tp w a0 a1 a2 rows = outputs_by tp (channel_at w a0 rows) (further_at tp w a1 rows) (further_at tp w a2 rows)
