-- The cones of a table's rows, and question 25. A cone is what the row's corners 1 to 3 span with factors that are not negative.
use Rattle.std.specs.Prelude.{Bool, ◌&&◌, ◌||◌, List, [], ◌∷◌, eqb, ℤ, pos, get_or}
use Rattle.std.specs.Int.Signed.{lt_z}
use Rattle.list_laws.specs.Lists.{count_below}
use Rattle.tetrahedron_tables.specs.Tables.{det}
use Rattle.table_rules.specs.Rows.{spanned}
use Rattle.table_rules.specs.Faces.{corner}

-- "the direction 1, 100, 10000"
abbrev pub direction : List ℤ
direction = pos 1 ∷ pos 100 ∷ pos 10000 ∷ []

-- both above 0, or both below
unfoldable pub is_one_sign : ℤ → ℤ → Bool
is_one_sign a b = (lt_z (pos 0) a && lt_z (pos 0) b) || (lt_z a (pos 0) && lt_z b (pos 0))

-- the direction lies strictly inside the cone of a row: the determinant keeps its sign with the direction in place of corner 1, of 2 and of 3
-- (Cramer's rule; by the three factors themselves: table_laws, ConeLaws)
unfoldable pub is_inside : List (List ℤ) → Bool
is_inside row =
    is_one_sign (det row) (spanned direction (corner row 2) (corner row 3))
    && (is_one_sign (det row) (spanned (corner row 1) direction (corner row 3)) && is_one_sign (det row) (spanned (corner row 1) (corner row 2) direction))

-- Question 25: "is that direction strictly inside exactly one row's cone"
unfoldable pub is_in_one : List (List (List ℤ)) → Bool
is_in_one rows = eqb (count_below 24 (λ r. is_inside (get_or rows r []))) 1
