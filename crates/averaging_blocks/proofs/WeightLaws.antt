-- Laws of the sums of weights, and the averaging of weights as the walk over its blocks. Assumes nothing.
use mathlib.Core.Path.{◌≡◌, refl, sym, ap, ◌∙◌}
use mathlib.Core.List.{List}
use Prim.Native.Nat.{ℕ, zero, suc, ◌+◌, ◌-◌, ◌*◌, ◌≤◌, ◌<◌}
use native.Mathlib.Nat.{add_assoc}
use native.Mathlib.Omega.{arith}
use lib.IntN.{ℤ}
use lib.ListN.{length, get_or}
use lib.Ieee.{Float, nan, binary64, add}
use borrow.Author.Tests.{lt-ltb, le-ltb}
use Rattle.list_laws.specs.Matrix.{Block, entries}
use Rattle.degenerate_sets.specs.Blocks.{blocks_of}
use Rattle.degenerate_sets.specs.Turns.{Local, in_turn}
use Rattle.degenerate_sets.proofs.AverageLaws.{averaged-length as keeps-length, averaged-in-turn}
use Rattle.averaging_blocks.specs.Weights.{row_sum, block_sum, mean, averaged_in, averaged_from}

module _ (z : Float) (m : List Float) (n top left wide : ℕ) where
  pub sum-none : block_sum z m n top left wide (top - top) ≡ z
  unfolding block_sum
  sum-none = ap (block_sum z m n top left wide) {x = top - top} {y = 0} (omega arith)

  pub sum_more : (r : ℕ) → top ≤ r
      → add binary64 (block_sum z m n top left wide (r - top)) (row_sum z m (r * n + left) wide) ≡ block_sum z m n top left wide (r + 1 - top)
  unfolding block_sum
  sum_more r h =
      let e : top + (r - top) ≡ r = omega arith in
      ap (λ (x : ℕ). add binary64 (block_sum z m n top left wide (r - top)) (row_sum z m (x * n + left) wide)) (sym e)
      ∙ ap (block_sum z m n top left wide) {x = suc (r - top)} {y = r + 1 - top} (omega arith)

module _ (z : Float) (n : ℕ) (b : Block) (m : List Float) (r c : ℕ) where
  pub averaged-many : 1 < entries b → averaged_in z n b m r c ≡ mean z n b m
  unfolding averaged_in
  averaged-many h = rw (lt-ltb 1 (entries b) h)

  pub averaged-one : entries b ≤ 1 → averaged_in z n b m r c ≡ get_or m (r * n + c) nan
  unfolding averaged_in
  averaged-one h = rw (le-ltb 1 (entries b) h)

-- ---- only the entries of the block count

module _ (z : Float) (m m' : List Float) where
  row-agree : (from w : ℕ) → ((j : ℕ) → j < w → get_or m (from + j) nan ≡ get_or m' (from + j) nan) → row_sum z m from w ≡ row_sum z m' from w
  unfolding row_sum
  row-agree from zero h = refl
  row-agree from (suc w) h = cc (row-agree from w (λ j l. h j (omega arith)), h w (omega arith))

  sum-agree : (n top left wide high : ℕ)
      → ((i j : ℕ) → i < high → j < wide → get_or m ((top + i) * n + (left + j)) nan ≡ get_or m' ((top + i) * n + (left + j)) nan)
      → block_sum z m n top left wide high ≡ block_sum z m' n top left wide high
  unfolding block_sum
  sum-agree n top left wide zero h = refl
  sum-agree n top left wide (suc high) h =
      cc (
        sum-agree n top left wide high (λ i j l g. h i j (omega arith) g),
        row-agree ((top + high) * n + left) wide (λ j g. rw add_assoc (h high j (omega arith) g)),
      )

pub averaged-local : (z : Float) (n : ℕ) → Local nan n (averaged_in z n)
unfolding averaged_in mean
averaged-local z n b m m' le h r c i =
    cc (
      sum-agree z m m' n b.top b.left (b.right - b.left) (b.bottom - b.top)
          (λ i j l g. h (b.top + i) (b.left + j) (omega arith) (omega arith)),
      h r c (omega arith) i,
    )

-- a matrix keeps its length
pub averaged-length : (z : Float) (n : ℕ) (ids1 ids2 : List ℤ) (m : List Float) → length (averaged_from z n ids1 ids2 m) ≡ n * n
averaged-length z n ids1 ids2 m = keeps-length (averaged_in z) n ids1 ids2 m

-- the averaging is the walk over the blocks of the two id lists, with sums begun at z
pub weights-in-turn : (z : Float) (n : ℕ) (ids1 ids2 : List ℤ) (m : List Float) → length m ≡ n * n
    → averaged_from z n ids1 ids2 m ≡ in_turn n (averaged_in z n) (blocks_of n ids1 ids2) m
weights-in-turn z n ids1 ids2 m len = averaged-in-turn (averaged_in z) n ids1 ids2 m nan (averaged-local z n) len
