-- The rows of the tetrahedra of a cell around a main diagonal, and the four tables that they make.
use Rattle.std.specs.Prelude.{◌≡◌, List, [], ◌∷◌, ℕ, ◌+◌, ◌%◌, ℤ, pos, ◌-ℤ◌, get_or}
use Rattle.list_laws.specs.Lists.{tabulate, rows, at}
use Rattle.list_laws.specs.Matching.{Matched, SameSet}
use Rattle.relative_grid_address.specs.Diagonal.{main_diagonals}
use Rattle.tetrahedron_tables.specs.Tables.{table_of, flat}
use Rattle.cell_tetrahedra.specs.Ways.{ways, tetrahedron}

-- the place a as seen from the place b
unfoldable pub minus : List ℤ → List ℤ → List ℤ
unfolding tabulate
minus a b = tabulate 3 (λ k. at a k -ℤ at b k)

-- "Shift each so that each of its four places in turn lies at zero": place s, which comes first, then those after it, and those before it
unfoldable pub shifted : List (List ℤ) → ℕ → List (List ℤ)
unfolding tabulate minus
shifted places s = tabulate 4 (λ c. minus (get_or places ((s + c) % 4) []) (get_or places s []))

-- "24 rows": of each of the six ways along d the four
unfoldable pub generated_table : List ℤ → List (List (List ℤ))
unfolding rows tabulate ways tetrahedron shifted
generated_table d = rows 6 (λ w. tabulate 4 (shifted (tetrahedron d (get_or ways w []))))

-- "For a main diagonal": the table generated for main diagonal t
abbrev pub generated_table_of : ℕ → List (List (List ℤ))
generated_table_of t = generated_table (get_or main_diagonals t [])

-- "a generator that .. makes all four": the numbers of the four tables, one after the other
unfoldable pub generated_tables : List ℤ
unfolding rows flat main_diagonals generated_table
generated_tables = rows 4 (λ t. flat (generated_table_of t))

-- where corner 0 of each row lies
abbrev pub origin : List ℤ
origin = pos 0 ∷ pos 0 ∷ pos 0 ∷ []

-- the table in use, of main diagonal t
abbrev pub constant_table : ℕ → List (List (List ℤ))
constant_table t = table_of t

-- two rows that are equal as sets of corners
abbrev pub SameCorners : List (List ℤ) → List (List ℤ) → Type 0
SameCorners = SameSet []

-- "these rows and the constant table are the same collection, each row matched once"
abbrev pub SameCollection : List (List (List ℤ)) → List (List (List ℤ)) → Type 0
SameCollection = Matched [] SameCorners

-- "up to the order .. of corners": each corner of one row is exactly one corner of the other
abbrev pub Reordered : List (List ℤ) → List (List ℤ) → Type 0
Reordered = Matched [] (λ a b. a ≡ b)
