-- The neighbour tables of the tetrahedron method, one for each main diagonal: 24 rows (tetrahedra) by four corners of three whole numbers, in the source's row and corner order, and the rule that they keep.
use Rattle.std.specs.Prelude.{Bool, ◌&&◌, ◌||◌, ℕ, zero, suc, ◌/◌, ◌%◌, ℤ, pos, negsuc, ◌+ℤ◌, ◌-ℤ◌, ◌*ℤ◌, get_or}
use mathlib.Core.List.{List, [], ◌∷◌, flatten}
use Rattle.list_laws.specs.Signed.{eq_z}

-- the components that occur: 0, 1 and -1
abbrev o : ℤ
o = pos 0

abbrev i : ℤ
i = pos 1

abbrev m : ℤ
m = negsuc 0

-- a corner is three components, a row four corners
abbrev corner : ℤ → ℤ → ℤ → List ℤ
corner x y z = x ∷ y ∷ z ∷ []

abbrev row : List ℤ → List ℤ → List ℤ → List ℤ → List (List ℤ)
row a b c d = a ∷ b ∷ c ∷ d ∷ []

-- the table of main diagonal 0
unfoldable pub table0 : List (List (List ℤ))
table0 =
    row (corner o o o) (corner i o o) (corner i i o) (corner i i i)
    ∷ row (corner o o o) (corner i o o) (corner i o i) (corner i i i)
    ∷ row (corner o o o) (corner o i o) (corner i i o) (corner i i i)
    ∷ row (corner o o o) (corner o i o) (corner o i i) (corner i i i)
    ∷ row (corner o o o) (corner o o i) (corner i o i) (corner i i i)
    ∷ row (corner o o o) (corner o o i) (corner o i i) (corner i i i)
    ∷ row (corner o o o) (corner o i o) (corner o i i) (corner m o o)
    ∷ row (corner o o o) (corner o o i) (corner o i i) (corner m o o)
    ∷ row (corner o o o) (corner i o o) (corner i o i) (corner o m o)
    ∷ row (corner o o o) (corner o o i) (corner i o i) (corner o m o)
    ∷ row (corner o o o) (corner o o i) (corner m m o) (corner o m o)
    ∷ row (corner o o o) (corner o o i) (corner m m o) (corner m o o)
    ∷ row (corner o o o) (corner i o o) (corner i i o) (corner o o m)
    ∷ row (corner o o o) (corner o i o) (corner i i o) (corner o o m)
    ∷ row (corner o o o) (corner o i o) (corner m o m) (corner o o m)
    ∷ row (corner o o o) (corner o i o) (corner m o m) (corner m o o)
    ∷ row (corner o o o) (corner i o o) (corner o m m) (corner o o m)
    ∷ row (corner o o o) (corner i o o) (corner o m m) (corner o m o)
    ∷ row (corner o o o) (corner m m m) (corner o m m) (corner o o m)
    ∷ row (corner o o o) (corner m m m) (corner o m m) (corner o m o)
    ∷ row (corner o o o) (corner m m m) (corner m o m) (corner o o m)
    ∷ row (corner o o o) (corner m m m) (corner m o m) (corner m o o)
    ∷ row (corner o o o) (corner m m m) (corner m m o) (corner o m o)
    ∷ row (corner o o o) (corner m m m) (corner m m o) (corner m o o)
    ∷ []

-- the table of main diagonal 1
unfoldable pub table1 : List (List (List ℤ))
table1 =
    row (corner o o o) (corner i o o) (corner o i o) (corner o i i)
    ∷ row (corner o o o) (corner i o o) (corner o o i) (corner o i i)
    ∷ row (corner o o o) (corner m i o) (corner m i i) (corner m o o)
    ∷ row (corner o o o) (corner m o i) (corner m i i) (corner m o o)
    ∷ row (corner o o o) (corner m i o) (corner o i o) (corner m i i)
    ∷ row (corner o o o) (corner o i o) (corner m i i) (corner o i i)
    ∷ row (corner o o o) (corner m o i) (corner o o i) (corner m i i)
    ∷ row (corner o o o) (corner o o i) (corner m i i) (corner o i i)
    ∷ row (corner o o o) (corner o o i) (corner o m o) (corner i m o)
    ∷ row (corner o o o) (corner i o o) (corner o o i) (corner i m o)
    ∷ row (corner o o o) (corner m o i) (corner o m o) (corner m o o)
    ∷ row (corner o o o) (corner m o i) (corner o o i) (corner o m o)
    ∷ row (corner o o o) (corner o i o) (corner o o m) (corner i o m)
    ∷ row (corner o o o) (corner i o o) (corner o i o) (corner i o m)
    ∷ row (corner o o o) (corner m i o) (corner o o m) (corner m o o)
    ∷ row (corner o o o) (corner m i o) (corner o i o) (corner o o m)
    ∷ row (corner o o o) (corner o m m) (corner i m m) (corner o o m)
    ∷ row (corner o o o) (corner o m m) (corner i m m) (corner o m o)
    ∷ row (corner o o o) (corner i m m) (corner o o m) (corner i o m)
    ∷ row (corner o o o) (corner i o o) (corner i m m) (corner i o m)
    ∷ row (corner o o o) (corner i m m) (corner o m o) (corner i m o)
    ∷ row (corner o o o) (corner i o o) (corner i m m) (corner i m o)
    ∷ row (corner o o o) (corner o m m) (corner o o m) (corner m o o)
    ∷ row (corner o o o) (corner o m m) (corner o m o) (corner m o o)
    ∷ []

-- the table of main diagonal 2
unfoldable pub table2 : List (List (List ℤ))
table2 =
    row (corner o o o) (corner i o o) (corner o i o) (corner i o i)
    ∷ row (corner o o o) (corner o i o) (corner o o i) (corner i o i)
    ∷ row (corner o o o) (corner m i o) (corner o o i) (corner m o o)
    ∷ row (corner o o o) (corner m i o) (corner o i o) (corner o o i)
    ∷ row (corner o o o) (corner i m i) (corner o m o) (corner i m o)
    ∷ row (corner o o o) (corner o m i) (corner i m i) (corner o m o)
    ∷ row (corner o o o) (corner i o o) (corner i m i) (corner i m o)
    ∷ row (corner o o o) (corner i o o) (corner i m i) (corner i o i)
    ∷ row (corner o o o) (corner o m i) (corner i m i) (corner o o i)
    ∷ row (corner o o o) (corner i m i) (corner o o i) (corner i o i)
    ∷ row (corner o o o) (corner o m i) (corner o m o) (corner m o o)
    ∷ row (corner o o o) (corner o m i) (corner o o i) (corner m o o)
    ∷ row (corner o o o) (corner i o o) (corner o o m) (corner o i m)
    ∷ row (corner o o o) (corner i o o) (corner o i o) (corner o i m)
    ∷ row (corner o o o) (corner m o m) (corner o o m) (corner m i m)
    ∷ row (corner o o o) (corner m o m) (corner m i m) (corner m o o)
    ∷ row (corner o o o) (corner o o m) (corner m i m) (corner o i m)
    ∷ row (corner o o o) (corner o i o) (corner m i m) (corner o i m)
    ∷ row (corner o o o) (corner m i o) (corner m i m) (corner m o o)
    ∷ row (corner o o o) (corner m i o) (corner o i o) (corner m i m)
    ∷ row (corner o o o) (corner o o m) (corner o m o) (corner i m o)
    ∷ row (corner o o o) (corner i o o) (corner o o m) (corner i m o)
    ∷ row (corner o o o) (corner m o m) (corner o o m) (corner o m o)
    ∷ row (corner o o o) (corner m o m) (corner o m o) (corner m o o)
    ∷ []

-- the table of main diagonal 3
unfoldable pub table3 : List (List (List ℤ))
table3 =
    row (corner o o o) (corner i o o) (corner i i o) (corner o o i)
    ∷ row (corner o o o) (corner o i o) (corner i i o) (corner o o i)
    ∷ row (corner o o o) (corner o i o) (corner m o i) (corner m o o)
    ∷ row (corner o o o) (corner o i o) (corner m o i) (corner o o i)
    ∷ row (corner o o o) (corner i o o) (corner o m i) (corner o m o)
    ∷ row (corner o o o) (corner i o o) (corner o m i) (corner o o i)
    ∷ row (corner o o o) (corner m m i) (corner m m o) (corner o m o)
    ∷ row (corner o o o) (corner m m i) (corner m m o) (corner m o o)
    ∷ row (corner o o o) (corner m m i) (corner o m i) (corner o m o)
    ∷ row (corner o o o) (corner m m i) (corner m o i) (corner m o o)
    ∷ row (corner o o o) (corner m m i) (corner o m i) (corner o o i)
    ∷ row (corner o o o) (corner m m i) (corner m o i) (corner o o i)
    ∷ row (corner o o o) (corner o o m) (corner i o m) (corner i i m)
    ∷ row (corner o o o) (corner o o m) (corner o i m) (corner i i m)
    ∷ row (corner o o o) (corner i o o) (corner i o m) (corner i i m)
    ∷ row (corner o o o) (corner o i o) (corner o i m) (corner i i m)
    ∷ row (corner o o o) (corner i o o) (corner i i o) (corner i i m)
    ∷ row (corner o o o) (corner o i o) (corner i i o) (corner i i m)
    ∷ row (corner o o o) (corner o o m) (corner o i m) (corner m o o)
    ∷ row (corner o o o) (corner o i o) (corner o i m) (corner m o o)
    ∷ row (corner o o o) (corner o o m) (corner i o m) (corner o m o)
    ∷ row (corner o o o) (corner i o o) (corner i o m) (corner o m o)
    ∷ row (corner o o o) (corner o o m) (corner m m o) (corner o m o)
    ∷ row (corner o o o) (corner o o m) (corner m m o) (corner m o o)
    ∷ []

-- the table of a main diagonal
unfoldable pub table_of : ℕ → List (List (List ℤ))
table_of zero = table0
table_of (suc zero) = table1
table_of (suc (suc zero)) = table2
table_of (suc (suc (suc t))) = table3

-- component k of corner c of row r
abbrev pub component : List (List (List ℤ)) → ℕ → ℕ → ℕ → ℤ
component table r c k = get_or (get_or (get_or table r []) c []) k (pos 0)

-- number j of the twelve of row r: of a corner its three components, one corner after another
abbrev pub entry : List (List (List ℤ)) → ℕ → ℕ → ℤ
entry table r j = component table r (j / 3) (j % 3)

-- a table's 288 numbers, row by row, corner by corner, component by component
unfoldable pub flat : List (List (List ℤ)) → List ℤ
unfolding flatten
flat table = flatten (flatten table)

-- the determinant of corners 1, 2 and 3 of a row
unfoldable pub det : List (List ℤ) → ℤ
det r =
    a 1 0 *ℤ (a 2 1 *ℤ a 3 2 -ℤ a 2 2 *ℤ a 3 1) -ℤ a 1 1 *ℤ (a 2 0 *ℤ a 3 2 -ℤ a 2 2 *ℤ a 3 0)
    +ℤ a 1 2 *ℤ (a 2 0 *ℤ a 3 1 -ℤ a 2 1 *ℤ a 3 0)
  where
    a : ℕ → ℕ → ℤ
    a c k = get_or (get_or r c []) k (pos 0)

-- the rule of a row: corner 0 is 0, 0, 0 and the other three span determinant 1 or -1
unfoldable pub row_ok : List (List ℤ) → Bool
unfolding det
row_ok r = origin (get_or r 0 []) && (eq_z (det r) (pos 1) || eq_z (det r) (negsuc 0))
  where
    origin : List ℤ → Bool
    origin a = eq_z (get_or a 0 (pos 1)) (pos 0) && (eq_z (get_or a 1 (pos 1)) (pos 0) && eq_z (get_or a 2 (pos 1)) (pos 0))
