-- All weights and all flags of a study.
use Rattle.std.specs.Prelude.{◌≡◌, List, ◌*◌, Float, ℤ}
use Rattle.list_laws.specs.Lists.{tabulate}
use Rattle.triplet_study.specs.Study.{Study, sizes_of}
use Rattle.ask.specs.Lent.{LentMut}
use Rattle.triplet_piece.specs.Weights.{weight_at, flag_at}

-- "Weights lie by channel, triplet, point, b1, b2"
unfoldable pub all_weights : Study → List Float
all_weights s = tabulate ((sizes_of s).channels * (sizes_of s).cells) (weight_at s)

-- "flags without the channel"
unfoldable pub all_flags : Study → List ℤ
all_flags s = tabulate (sizes_of s).cells (flag_at s)

-- a call computes all of them
abbrev pub ComputesAll : Study → LentMut Float → LentMut ℤ → Type 0
ComputesAll s weights flags = (weights.exit.now ≡ all_weights s) × (flags.exit.now ≡ all_flags s)
