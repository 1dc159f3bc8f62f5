-- The same of channels whose rows are in order.
use Rattle.std.specs.Prelude.{cond, List, ◌≡◌, ℕ, ◌*◌, Float, Option, Some, None}
use Rattle.tetrahedron_method.specs.Sorted.{InOrder, sorted_weight}
use Rattle.tetrahedron_method.specs.declared.WeightFunction.TheVariants.{I}
use Rattle.triplet_types.specs.declared.TpType.{TpType}
use Rattle.triplet_types.specs.declared.TpType.TheVariants.{Type2, Type3, Type4}
use Rattle.triplet_outputs.specs.declared.Outputs.{Outputs}
use Rattle.triplet_values.specs.Values.{box_of, Begun}
use Rattle.triplet_outputs.specs.Outputs.{holds, outputs_by}
use Rattle.triplet_channels.specs.declared.Channel.{Channel}
use Rattle.triplet_channels.specs.declared.Channels.{Channels}

-- how many rows the second and the third channel are given: none where there is "the first alone"
abbrev pub further_rows : TpType → ℕ → ℕ
further_rows Type2 rows = rows
further_rows Type3 rows = rows
further_rows Type4 rows = 0

-- a channel
unfoldable pub ordered_channel_at : Float → Channel → ℕ → Option Float
ordered_channel_at w c rows = cond (holds c.bounds w) (Some (sorted_weight I w c.values c.places rows)) None

-- the second and the third channel
unfoldable pub ordered_further_at : TpType → Float → Channel → ℕ → Option Float
ordered_further_at Type2 w c rows = ordered_channel_at w c rows
ordered_further_at Type3 w c rows = ordered_channel_at w c rows
ordered_further_at Type4 w c rows = None

-- the outputs
unfoldable pub outputs_ordered : TpType → Float → Channels → ℕ → Outputs
outputs_ordered tp w c rows =
    outputs_by tp (ordered_channel_at w c.first rows) (ordered_further_at tp w c.second rows) (ordered_further_at tp w c.third rows)

-- a channel with the values t is ready: it has the rows, in order, of an area that begins as t does, and that area's box
pub record Prepared (rows : ℕ) (t : List Float) (c : Channel) : Type 0 where
  pub filled : List Float
  pub begun : Begun (rows * 4) filled t
  pub sorted : InOrder filled rows c.values c.places
  pub bounds : c.bounds ≡ box_of filled (rows * 4)
