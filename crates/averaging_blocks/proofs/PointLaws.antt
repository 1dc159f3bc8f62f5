-- The matrices of several points: the list keeps its length, each matrix is the old one averaged, and so is each entry. Assumes nothing.
use mathlib.Core.Path.{◌≡◌}
use mathlib.Core.List.{List}
use Prim.Native.Nat.{ℕ, ◌+◌, ◌*◌, ◌<◌}
use lib.IntN.{ℤ, pos}
use lib.ListN.{length, get_or}
use lib.Ieee.{Float, nan}
use Rattle.list_laws.specs.Lists.{at, part}
use Rattle.ieee_laws.specs.Zeros.{plus_zero}
use Rattle.degenerate_sets.specs.Sets.{starts_at, block_of}
use Rattle.degenerate_sets.proofs.AverageLaws as any_rule
use Rattle.averaging_blocks.specs.Weights.{averaged_in, averaged_from, averaged, averaged_points}
use Rattle.averaging_flags.specs.Flags.{flag_in, averaged_flags, averaged_flag_points}

-- ---- weights

-- an entry of one averaged matrix
pub averaged-entry : (z : Float) (n : ℕ) (ids1 ids2 : List ℤ) (m : List Float) (r c : ℕ) → r < n → c < n
    → get_or (averaged_from z n ids1 ids2 m) (r * n + c) nan ≡ averaged_in z n (block_of (starts_at ids1) (starts_at ids2) n r c) m r c
averaged-entry z n ids1 ids2 m = any_rule.averaged-entry (averaged_in z) n ids1 ids2 m nan

module _ (bands : ℕ) (ids1 ids2 : List ℤ) (points : ℕ) (w : List Float) where
  pub points-length : length (averaged_points bands ids1 ids2 points w) ≡ points * (bands * bands)
  points-length = any_rule.points-length (averaged_in plus_zero) bands ids1 ids2 points w

  -- each point's matrix is the old one averaged
  pub points-each : (k : ℕ) → k < points
      → part (k * (bands * bands)) (bands * bands) (averaged_points bands ids1 ids2 points w) ≡ averaged bands ids1 ids2 (part (k * (bands * bands)) (bands * bands) w)
  points-each = any_rule.points-each (averaged_in plus_zero) bands ids1 ids2 points w

  -- and so is each entry
  pub points-entry : (k r c : ℕ) → k < points → r < bands → c < bands
      → get_or (averaged_points bands ids1 ids2 points w) (k * (bands * bands) + (r * bands + c)) nan
      ≡ averaged_in plus_zero bands (block_of (starts_at ids1) (starts_at ids2) bands r c) (part (k * (bands * bands)) (bands * bands) w) r c
  points-entry = any_rule.points-entry (averaged_in plus_zero) bands ids1 ids2 points w nan

-- ---- flags

pub flags-entry : (n : ℕ) (ids1 ids2 m : List ℤ) (r c : ℕ) → r < n → c < n
    → at (averaged_flags n ids1 ids2 m) (r * n + c) ≡ flag_in n (block_of (starts_at ids1) (starts_at ids2) n r c) m r c
flags-entry n ids1 ids2 m = any_rule.averaged-entry flag_in n ids1 ids2 m (pos 0)

module _ (bands : ℕ) (ids1 ids2 : List ℤ) (points : ℕ) (flags : List ℤ) where
  pub flag-points-length : length (averaged_flag_points bands ids1 ids2 points flags) ≡ points * (bands * bands)
  flag-points-length = any_rule.points-length flag_in bands ids1 ids2 points flags

  pub flag-points-each : (k : ℕ) → k < points
      → part (k * (bands * bands)) (bands * bands) (averaged_flag_points bands ids1 ids2 points flags)
      ≡ averaged_flags bands ids1 ids2 (part (k * (bands * bands)) (bands * bands) flags)
  flag-points-each = any_rule.points-each flag_in bands ids1 ids2 points flags

  pub flag-points-entry : (k r c : ℕ) → k < points → r < bands → c < bands
      → at (averaged_flag_points bands ids1 ids2 points flags) (k * (bands * bands) + (r * bands + c))
      ≡ flag_in bands (block_of (starts_at ids1) (starts_at ids2) bands r c) (part (k * (bands * bands)) (bands * bands) flags) r c
  flag-points-entry = any_rule.points-entry flag_in bands ids1 ids2 points flags (pos 0)
