-- The faces of a table's rows, and question 24. "A face is zero with two other corners of a row": it is named by these two, in either order.
use Rattle.std.specs.Prelude.{Bool, true, false, ◌&&◌, ◌||◌, cond, List, [], ℕ, eqb, ℤ, pos, get_or, Option, Some, None}
use Rattle.std.specs.Int.Signed.{lt_z}
use Rattle.list_laws.specs.Lists.{all_below, count_below, at}
use Rattle.list_laws.specs.Signed.{eq_z}
use Rattle.table_rules.specs.Rows.{spanned}

-- corner c of a row
abbrev pub corner : List (List ℤ) → ℕ → List ℤ
corner row c = get_or row c []

-- two corners lie in one place
unfoldable pub is_same : List ℤ → List ℤ → Bool
is_same a b = (eq_z (at a 0) (at b 0) && eq_z (at a 1) (at b 1)) && eq_z (at a 2) (at b 2)

-- corners p and q make the face a, b
unfoldable pub is_face : List ℤ → List ℤ → List ℤ → List ℤ → Bool
is_face p q a b = (is_same p a && is_same q b) || (is_same p b && is_same q a)

-- where a row has the face a, b, the side on which it lies: the determinant of a, b and the row's remaining corner
unfoldable pub side : List (List ℤ) → List ℤ → List ℤ → Option ℤ
side row a b =
    cond (is_face (corner row 1) (corner row 2) a b) (Some (spanned a b (corner row 3)))
    (cond (is_face (corner row 2) (corner row 3) a b) (Some (spanned a b (corner row 1)))
    (cond (is_face (corner row 3) (corner row 1) a b) (Some (spanned a b (corner row 2)))
    None))

-- the row has the face
abbrev pub has_face : Option ℤ → Bool
has_face None = false
has_face (Some d) = true

-- and lies on the one side of it, or on the other
abbrev pub lies_above : Option ℤ → Bool
lies_above None = false
lies_above (Some d) = lt_z (pos 0) d

abbrev pub lies_below : Option ℤ → Bool
lies_below None = false
lies_below (Some d) = lt_z d (pos 0)

-- how many of the first n rows have the face a, b, by a test of their sides
abbrev pub rows_with : (Option ℤ → Bool) → List (List (List ℤ)) → List ℤ → List ℤ → ℕ → ℕ
rows_with test rows a b n = count_below n (λ s. test (side (get_or rows s []) a b))

-- "each face in exactly two rows, on opposite sides", of one face
unfoldable pub is_paired : List (List (List ℤ)) → List ℤ → List ℤ → Bool
is_paired rows a b =
    eqb (rows_with has_face rows a b 24) 2 && (eqb (rows_with lies_above rows a b 24) 1 && eqb (rows_with lies_below rows a b 24) 1)

-- of the three faces of a row
unfoldable pub is_row_paired : List (List (List ℤ)) → List (List ℤ) → Bool
is_row_paired rows row =
    is_paired rows (corner row 1) (corner row 2) && (is_paired rows (corner row 2) (corner row 3) && is_paired rows (corner row 3) (corner row 1))

-- Question 24: "is each face in exactly two rows, on opposite sides"
unfoldable pub are_paired : List (List (List ℤ)) → Bool
are_paired rows = all_below 24 (λ r. is_row_paired rows (get_or rows r []))
