-- A flat table as rows of corners, and question 23.
use Rattle.std.specs.Prelude.{◌≡◌, Bool, true, ◌&&◌, List, [], ◌∷◌, ℕ, ◌+◌, ◌*◌, eqb, ℤ, length}
use Rattle.list_laws.specs.Lists.{all_below, tabulate, at}
use Rattle.list_laws.specs.Signed.{within}
use Rattle.tetrahedron_tables.specs.Tables.{det, row_ok}

-- corner j, counted through all rows: three whole numbers
abbrev pub corner_at : List ℤ → ℕ → List ℤ
corner_at table j = at table (j * 3) ∷ at table (j * 3 + 1) ∷ at table (j * 3 + 2) ∷ []

-- row r: four corners
abbrev pub row_at : List ℤ → ℕ → List (List ℤ)
row_at table r = corner_at table (r * 4) ∷ corner_at table (r * 4 + 1) ∷ corner_at table (r * 4 + 2) ∷ corner_at table (r * 4 + 3) ∷ []

-- the 24 rows of a table
unfoldable pub rows_of : List ℤ → List (List (List ℤ))
rows_of table = tabulate 24 (row_at table)

-- "components -2 to 2"
unfoldable pub are_small : List ℤ → Bool
are_small table = all_below (length table) (λ k. within 2 (at table k))

-- Question 23: "are there 24 rows, each with first corner zero, components -2 to 2 and determinant 1 or -1"
unfoldable pub are_unit_rows : List ℤ → Bool
are_unit_rows table = (eqb (length table) 288 && are_small table) && all_below 24 (λ r. row_ok (row_at table r))

-- the determinant of three places: that of the row whose corners 1 to 3 they are
abbrev pub spanned : List ℤ → List ℤ → List ℤ → ℤ
spanned a b c = det ([] ∷ a ∷ b ∷ c ∷ [])

-- no component of a place is past ±n
abbrev pub AllWithin : ℕ → List ℤ → Type 0
AllWithin n a = (k : ℕ) → within n (at a k) ≡ true
