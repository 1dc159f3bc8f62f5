-- Averaging by any rule: a matrix keeps its length, each entry becomes what the rule says of it in its own block, the averaging is the walk over
-- the blocks, and the matrices of several points are each averaged by itself. Assumes nothing.
use mathlib.Core.Path.{◌≡◌, sym, ◌∙◌}
use mathlib.Core.List.{List}
use Prim.Native.Nat.{ℕ, ◌+◌, ◌*◌, ◌<◌}
use lib.IntN.{ℤ}
use lib.ListN.{length, get_or}
use Rattle.list_laws.specs.Lists.{part}
use Rattle.list_laws.proofs.FillLaws.{length-tabulate}
use Rattle.list_laws.proofs.MatrixLaws.{each-length, each_part_lem, each-entry, square-at}
use Rattle.list_laws.proofs.ProductLaws.{digit_lt}
use Rattle.degenerate_sets.specs.Sets.{starts_at, block_of}
use Rattle.degenerate_sets.specs.Turns.{Local}
use Rattle.degenerate_sets.specs.Averages.{Rule, averaged_by, blocks_in_turn, points_by}
use Rattle.degenerate_sets.proofs.TurnLaws.{matrix-in-turn}

-- ---- one matrix

module _ {A : Type 0} (rule : Rule A) (n : ℕ) (ids1 ids2 : List ℤ) (m : List A) where
  pub averaged-length : length (averaged_by rule n ids1 ids2 m) ≡ n * n
  unfolding averaged_by
  averaged-length = length-tabulate (n * n) _

  pub averaged-in-turn : (d : A) → Local d n (rule n) → length m ≡ n * n → averaged_by rule n ids1 ids2 m ≡ blocks_in_turn rule n ids1 ids2 m
  unfolding averaged_by
  averaged-in-turn d local len = sym (matrix-in-turn d n (rule n) local ids1 ids2 m len)

  pub averaged-entry : (d : A) (r c : ℕ) → r < n → c < n
      → get_or (averaged_by rule n ids1 ids2 m) (r * n + c) d ≡ rule n (block_of (starts_at ids1) (starts_at ids2) n r c) m r c
  unfolding averaged_by
  averaged-entry d r c h l = square-at d n (λ r c. rule n (block_of (starts_at ids1) (starts_at ids2) n r c) m r c) r c h l

-- ---- the matrices of several points

module _ {A : Type 0} (rule : Rule A) (bands : ℕ) (ids1 ids2 : List ℤ) (points : ℕ) (w : List A) where
  pub points-length : length (points_by rule bands ids1 ids2 points w) ≡ points * (bands * bands)
  unfolding points_by
  points-length = each-length (bands * bands) (averaged_by rule bands ids1 ids2) (averaged-length rule bands ids1 ids2) points w

  -- each point's matrix is the old one averaged
  pub points-each : (k : ℕ) → k < points
      → part (k * (bands * bands)) (bands * bands) (points_by rule bands ids1 ids2 points w)
      ≡ averaged_by rule bands ids1 ids2 (part (k * (bands * bands)) (bands * bands) w)
  unfolding points_by
  points-each k h = each_part_lem (bands * bands) (averaged_by rule bands ids1 ids2) (averaged-length rule bands ids1 ids2) points k w h

  -- and so is each entry
  pub points-entry : (d : A) (k r c : ℕ) → k < points → r < bands → c < bands
      → get_or (points_by rule bands ids1 ids2 points w) (k * (bands * bands) + (r * bands + c)) d
      ≡ rule bands (block_of (starts_at ids1) (starts_at ids2) bands r c) (part (k * (bands * bands)) (bands * bands) w) r c
  unfolding points_by
  points-entry d k r c h g l =
      each-entry (bands * bands) (averaged_by rule bands ids1 ids2) (averaged-length rule bands ids1 ids2) d points k (r * bands + c) w h (digit_lt r bands c bands g l)
      ∙ averaged-entry rule bands ids1 ids2 (part (k * (bands * bands)) (bands * bands) w) d r c g l
