-- What averaging makes of weights: "a block of more than one entry becomes its mean".
use Rattle.std.specs.Prelude.{cond, List, ℕ, zero, suc, ◌+◌, ◌-◌, ◌*◌, ℤ, pos, get_or, Float}
use Rattle.std.specs.Float.{nan, binary64}
use Rattle.std.specs.Float.Ieee.{add, div, of_int}
use Rattle.list_laws.specs.Matrix.{Block, entries}
use Rattle.ieee_laws.specs.Zeros.{plus_zero}
use Rattle.degenerate_sets.specs.Blocks.{is_larger, blocks_of}
use Rattle.degenerate_sets.specs.Turns.{in_turn}
use Rattle.degenerate_sets.specs.Averages.{averaged_by, points_by}

-- "row sums left to right": begun at z, the sum of `wide` weights from `from` on
unfoldable pub row_sum : Float → List Float → ℕ → ℕ → Float
row_sum z m from zero = z
row_sum z m from (suc wide) = add binary64 (row_sum z m from wide) (get_or m (from + wide) nan)

-- "then the sum of row sums": begun at z, of `high` rows from row `top` on, each of `wide` weights from column `left` on
unfoldable pub block_sum : Float → List Float → ℕ → ℕ → ℕ → ℕ → ℕ → Float
unfolding row_sum
block_sum z m n top left wide zero = z
block_sum z m n top left wide (suc high) =
    add binary64 (block_sum z m n top left wide high) (row_sum z m ((top + high) * n + left) wide)

-- "then one division": the mean of the block b
unfoldable pub mean : Float → ℕ → Block → List Float → Float
unfolding block_sum
mean z n b m =
    div binary64 (block_sum z m n b.top b.left (b.right - b.left) (b.bottom - b.top)) (of_int binary64 (pos (entries b)))

-- what becomes of the entry (r, c), in the block b: the mean, and itself in a block of one entry
unfoldable pub averaged_in : Float → ℕ → Block → List Float → ℕ → ℕ → Float
unfolding mean
averaged_in z n b m r c = cond (is_larger b) (mean z n b m) (get_or m (r * n + c) nan)

-- the matrix of n bands by n bands after averaging, with sums begun at z
abbrev pub averaged_from : Float → ℕ → List ℤ → List ℤ → List Float → List Float
averaged_from z = averaged_by (averaged_in z)

-- the matrix after averaging: sums begin at 0.0
abbrev pub averaged : ℕ → List ℤ → List ℤ → List Float → List Float
averaged = averaged_from plus_zero

-- the same, block after block: what each block of the two id lists in turn makes of the matrix (`weights-in-turn`)
abbrev pub weights_in_turn : ℕ → List ℤ → List ℤ → List Float → List Float
weights_in_turn n ids1 ids2 m = in_turn n (averaged_in plus_zero n) (blocks_of n ids1 ids2) m

-- the matrices of several frequency points, one after another, each averaged by itself
abbrev pub averaged_points : ℕ → List ℤ → List ℤ → ℕ → List Float → List Float
averaged_points = points_by (averaged_in plus_zero)
