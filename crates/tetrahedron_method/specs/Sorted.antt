-- A work area whose rows are in order, and the weight over it.
use Rattle.std.specs.Prelude.{◌≡◌, List, ℕ, zero, suc, ◌+◌, ◌*◌, ◌<◌, pos, get_or, set, length, Float}
use Rattle.std.specs.Float.{nan, binary64}
use Rattle.std.specs.Float.Ieee.{of_int}
use Rattle.ieee_laws.specs.Zeros.{zero_f}
use Rattle.tetrahedron_fractions.specs.Binary64.{four, ◌⊕◌, ◌⊘◌}
use Rattle.tetrahedron_sort.specs.Sort.{sorted_of, place_of}
use Rattle.tetrahedron_method.specs.declared.WeightFunction.{WeightFunction}
use Rattle.tetrahedron_method.specs.Weight.{row_of, sorted_row_weight}

-- the list with row k replaced
abbrev pub with_row : List Float → ℕ → List Float → List Float
with_row a k r =
    set (set (set (set a (k * 4) (get_or r 0 nan)) (k * 4 + 1) (get_or r 1 nan)) (k * 4 + 2) (get_or r 2 nan)) (k * 4 + 3) (get_or r 3 nan)

-- the first rows of s are those of a in order, and p tells the place of each one's first value
abbrev pub Ordered : List Float → ℕ → List Float → List ℕ → Type 0
Ordered a rows s p = (k : ℕ) → k < rows → (row_of s k ≡ sorted_of (row_of a k)) × (get_or p k 0 ≡ place_of (row_of a k))

-- what a work area and its places hold once the rows are in order
pub record InOrder (a : List Float) (rows : ℕ) (s : List Float) (p : List ℕ) : Type 0 where
  pub size : length s ≡ 384
  pub count : length p ≡ 96
  pub sorted : Ordered a rows s p

-- what row k of rows in order adds
abbrev pub sorted_row_at : WeightFunction → Float → List Float → List ℕ → ℕ → Float
sorted_row_at u w s p k = sorted_row_weight u w (row_of s k) (get_or p k 0)

-- what the first k rows add, summed left to right from 0.0
unfoldable pub sorted_sum : WeightFunction → Float → List Float → List ℕ → ℕ → Float
sorted_sum u w s p zero = zero_f
sorted_sum u w s p (suc k) = sorted_sum u w s p k ⊕ sorted_row_at u w s p k

-- the weight at omega over a count of rows in order
unfoldable pub sorted_weight : WeightFunction → Float → List Float → List ℕ → ℕ → Float
sorted_weight u w s p rows = sorted_sum u w s p rows ⊘ (of_int binary64 (pos rows) ⊘ four)
