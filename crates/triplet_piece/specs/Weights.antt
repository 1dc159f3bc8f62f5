-- The weights and the flag of a study at a triplet, a band pair and a frequency point, and where they lie.
use Rattle.std.specs.Prelude.{◌≡◌, Bool, List, ℕ, ◌+◌, ◌*◌, ◌/◌, ◌%◌, ℤ, Float, get_or}
use Rattle.std.specs.Float.{nan}
use Rattle.std.specs.Int.Signed.{mag}
use Rattle.list_laws.specs.Lists.{at}
use Rattle.triplet_outputs.specs.declared.Outputs.{Outputs}
use Rattle.triplet_values.specs.Values.{corner_frequencies, channel_values}
use Rattle.triplet_channels.specs.declared.Channels.{Channels}
use Rattle.triplet_channels.specs.Channels.{outputs_at}
use Rattle.triplet_channels.specs.Ordered.{outputs_ordered}
use Rattle.triplet_study.specs.declared.Sizes.{Sizes}
use Rattle.triplet_study.specs.Study.{Study, tp_in, grid_in, sizes_of}
use Rattle.ask.specs.Lent.{LentMut}
use Rattle.triplet_corners.specs.Corners.{second_steps, corner_numbers}
use Rattle.triplet_piece.specs.Layout.{triplet_at, point_at, pair_at, channel_of, patch_pieces}

-- the outputs at point x, of channels in order
abbrev pub outputs_of_sorted : Sizes → List Float → Channels → ℕ → Outputs
outputs_of_sorted z points channels x = outputs_ordered z.tp (get_or points x nan) channels z.rows

-- the outputs of bands b1, b2 at point x, of a triplet with these corner numbers of its second and third point
unfoldable pub outputs_of_corners : Sizes → List Float → List ℕ → List ℕ → List Float → ℕ → List Float → ℕ → ℕ → Outputs
outputs_of_corners z points numbers1 numbers2 frequencies1 b1 frequencies2 b2 x =
    let n = z.rows * 4 in
    let f1 = corner_frequencies z.tp numbers1 n frequencies1 z.bands1 b1 in
    let f2 = corner_frequencies z.tp numbers2 n frequencies2 z.bands2 b2 in
    outputs_at z.tp (get_or points x nan) (channel_values 0 f1 f2 n) (channel_values 1 f1 f2 n) (channel_values 2 f1 f2 n) z.rows

-- the grid point of place i of triplet t
abbrev pub point_of : List ℤ → ℕ → ℕ → ℕ
point_of triplets t i = mag (at triplets (3 * t + i))

-- the corners of the second point of triplet t, by the first copy of the table
abbrev pub first_corners : Study → ℕ → List ℕ
first_corners s t = corner_numbers (grid_in s) s.addresses s.gp-map s.steps (point_of s.triplets t 1)

-- the corners of its third point, by the second copy
abbrev pub second_corners : Study → ℕ → List ℕ
second_corners s t = corner_numbers (grid_in s) s.addresses s.gp-map (second_steps (tp_in s) s.steps) (point_of s.triplets t 2)

-- The weights and the flag of a study at triplet t, bands b1 and b2, point x.
unfoldable pub outputs_of : Study → ℕ → ℕ → ℕ → ℕ → Outputs
outputs_of s t b1 b2 x =
    outputs_of_corners (sizes_of s) s.points (first_corners s t) (second_corners s t) s.frequencies1 b1 s.frequencies2 b2 x

-- the outputs at cell j
unfoldable pub outputs_at_cell : Study → Sizes → ℕ → Outputs
outputs_at_cell s z j =
    outputs_of s (triplet_at z.points z.pairs j) (pair_at z.points z.pairs j / z.bands2) (pair_at z.points z.pairs j % z.bands2) (point_at z.points z.pairs j)

-- the weight at place i: "Weights lie by channel, triplet, point, b1, b2"
abbrev pub weight_at : Study → ℕ → Float
weight_at s i = channel_of (outputs_at_cell s (sizes_of s) (i % (sizes_of s).cells)) (i / (sizes_of s).cells)

-- the flag at place j: "flags without the channel"
abbrev pub flag_at : Study → ℕ → ℤ
flag_at s j = (outputs_at_cell s (sizes_of s) j).flag

-- the weights once the pieces that `own` picks are computed
unfoldable pub computed_weights : Study → (ℕ → Bool) → List Float → List Float
computed_weights s own l = patch_pieces (sizes_of s) (λ i. i % (sizes_of s).cells) own (weight_at s) l

-- the flags once they are
unfoldable pub computed_flags : Study → (ℕ → Bool) → List ℤ → List ℤ
computed_flags s own l = patch_pieces (sizes_of s) (λ j. j) own (flag_at s) l

-- weights and flags once those pieces are computed
pub record AreComputed (s : Study) (own : ℕ → Bool) (weights : List Float) (flags : List ℤ) (weights' : List Float) (flags' : List ℤ) : Type 0 where
  pub weights-are : weights' ≡ computed_weights s own weights
  pub flags-are : flags' ≡ computed_flags s own flags

-- a call computes them
abbrev pub Computes : Study → (ℕ → Bool) → LentMut Float → LentMut ℤ → Type 0
Computes s own weights flags = AreComputed s own weights.entry.now flags.entry.now weights.exit.now flags.exit.now
