-- The numbers of the generated tables one by one, as the code computes them.
use Rattle.std.specs.Prelude.{List, [], ℕ, ◌+◌, ◌/◌, ◌%◌, eqb, ℤ, ◌-ℤ◌, get_or}
use Rattle.list_laws.specs.Lists.{first_at, at}
use Rattle.relative_grid_address.specs.Diagonal.{main_diagonals}
use Rattle.cell_tetrahedra.specs.Ways.{ways, place}

-- which edge of a way goes along an axis, from 0
unfoldable pub edge_along : List ℕ → ℕ → ℕ
unfolding first_at
edge_along way axis = first_at (λ n. eqb (get_or way n 0) axis) 0 3 3

-- component k of place n of a tetrahedron: six tetrahedra, one for each way, around each of the four diagonals
unfoldable pub place_of : ℕ → ℕ → ℕ → ℤ
unfolding main_diagonals ways place
place_of tetrahedron n k = at (place (get_or main_diagonals (tetrahedron / 6) []) (get_or ways (tetrahedron % 6) []) n) k

-- number i of the four tables: 48 of each tetrahedron, 12 of each shift, 3 of each corner
unfoldable pub number_of : ℕ → ℤ
unfolding place_of
number_of i = place_of (i / 48) ((i / 12 % 4 + i / 3 % 4) % 4) (i % 3) -ℤ place_of (i / 48) (i / 12 % 4) (i % 3)
