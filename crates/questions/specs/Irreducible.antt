-- Question 11 of the weights at grid points. P is the count of addresses, R that of irreducible points.
use Rattle.std.specs.Prelude.{Bool, ◌&&◌, List, ℕ, leb, eqb, ℤ, Float, length}
use Rattle.std.specs.Int.Signed.{non_neg, mag}
use Rattle.question_values.specs.Counts.{is_product}
use Rattle.question_values.specs.Frequencies.{are_frequencies}
use Rattle.question_grids.specs.Steps.{are_grid_points}

-- "P map values 0 to R-1"
unfoldable pub is_irreducible_map : ℕ → ℕ → List ℤ → Bool
is_irreducible_map p r irreducible = eqb (length irreducible) p && are_grid_points r irreducible

-- Question 11: "(grid-point weights: R times bands, and P map values 0 to R-1), each zero or of magnitude 2^-600 to 2^30", R at least 1
unfoldable pub are_irreducible : ℤ → ℕ → ℕ → List Float → List ℤ → Bool
are_irreducible r bands p frequencies irreducible =
    ((non_neg r && leb 1 (mag r)) && is_product (mag r) bands (length frequencies))
    && (are_frequencies frequencies && is_irreducible_map p (mag r) irreducible)
