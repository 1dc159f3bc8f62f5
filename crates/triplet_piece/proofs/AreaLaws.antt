-- The outputs of channels that are ready. Assumes nothing.
use mathlib.Core.Path.{◌≡◌}
use mathlib.Core.List.{List}
use Prim.Native.Nat.{ℕ, ◌*◌, ◌≤◌}
use lib.Ieee.{Float}
use Rattle.triplet_types.specs.declared.TpType.{TpType}
use Rattle.triplet_values.specs.Values.{channel_values, Begun}
use Rattle.triplet_channels.specs.declared.Channels.{Channels}
use Rattle.triplet_channels.specs.Channels.{outputs_at}
use Rattle.triplet_channels.specs.Ordered.{further_rows, outputs_ordered, Prepared}
use Rattle.triplet_channels.proofs.OrderedLaws.{outputs-is, prepared-as, further-as}

-- once the three channels are ready, their outputs are the plain outputs: f1, f2 are the corner frequencies, u1, u2 the areas that hold
-- them, n the rows of the further channels
pub outputs-after : (tp : TpType) (rows n : ℕ) → n ≡ further_rows tp rows → {f1 f2 u1 u2 : List Float} → Begun (rows * 4) u1 f1 → Begun (rows * 4) u2 f2 → (c : Channels)
    → Prepared rows (channel_values 0 u1 u2 (rows * 4)) c.first → Prepared n (channel_values 1 u1 u2 (n * 4)) c.second → Prepared n (channel_values 2 u1 u2 (n * 4)) c.third
    → (w : Float) → 1 ≤ rows
    → outputs_ordered tp w c rows ≡ outputs_at tp w (channel_values 0 f1 f2 (rows * 4)) (channel_values 1 f1 f2 (rows * 4)) (channel_values 2 f1 f2 (rows * 4)) rows
outputs-after tp rows n q b1 b2 c h0 h1 h2 w some =
    outputs-is tp w rows some c (prepared-as 0 rows b1 b2 h0) (further-as tp 1 rows n q b1 b2 h1) (further-as tp 2 rows n q b1 b2 h2)
