-- One weight: what a row of four vertex values adds at omega, and the sum over the rows.
use Rattle.std.specs.Prelude.{ℕ, zero, suc, ◌+◌, ◌*◌, cond, List, [], ◌∷◌, pos, get_or, Float}
use Rattle.std.specs.Float.{nan, binary64}
use Rattle.std.specs.Float.Ieee.{of_int, ne}
use Rattle.ieee_laws.specs.Zeros.{zero_f}
use Rattle.tetrahedron_fractions.specs.Binary64.{four, ◌⊕◌, ◌⊘◌}
use Rattle.tetrahedron_formulas.specs.Choice.{density_share, states_share}
use Rattle.tetrahedron_fractions.specs.Branch.{branch_of}
use Rattle.tetrahedron_sort.specs.Sort.{sorted_of, place_of}
use Rattle.tetrahedron_method.specs.declared.WeightFunction.{WeightFunction}
use Rattle.tetrahedron_method.specs.declared.WeightFunction.TheVariants.{I, J}

-- a product that is a NaN adds 0 instead
unfoldable pub or_zero : Float → Float
or_zero p = cond (ne p p) zero_f p

-- the weight, I times g or J times n, of the vertex at a place in a tetrahedron with the sorted values v
unfoldable pub share_of : WeightFunction → Float → List Float → ℕ → Float
share_of I w v place = density_share w v (branch_of w v) place
share_of J w v place = states_share w v (branch_of w v) place

-- what a row with the sorted values v adds at omega, the place of its first value known
abbrev pub sorted_row_weight : WeightFunction → Float → List Float → ℕ → Float
sorted_row_weight u w v place = or_zero (share_of u w v place)

-- what a row of four vertex values adds at omega: the weight of its first vertex
unfoldable pub row_weight : WeightFunction → Float → List Float → Float
row_weight u w row = sorted_row_weight u w (sorted_of row) (place_of row)

-- row k of a flat list
abbrev pub row_of : List Float → ℕ → List Float
row_of a k = get_or a (k * 4) nan ∷ get_or a (k * 4 + 1) nan ∷ get_or a (k * 4 + 2) nan ∷ get_or a (k * 4 + 3) nan ∷ []

-- what the first k rows add, summed left to right from 0.0
unfoldable pub sum_of : WeightFunction → Float → List Float → ℕ → Float
sum_of u w a zero = zero_f
sum_of u w a (suc k) = sum_of u w a k ⊕ row_weight u w (row_of a k)

-- the integration weight at omega over a count of rows: the sum divided by rows / 4
unfoldable pub weight_of : WeightFunction → Float → List Float → ℕ → Float
weight_of u w a rows = sum_of u w a rows ⊘ (of_int binary64 (pos rows) ⊘ four)
