-- The grid point that stands for an address, on grids of both kinds.
use Rattle.std.specs.Prelude.{◌≡◌, Bool, true, ◌&&◌, cond, List, ℕ, ◌+◌, ◌-◌, ◌*◌, ltb, eqb, ℤ, ◌+ℤ◌}
use Rattle.std.specs.Int.Signed.{mag}
use Rattle.list_laws.specs.Lists.{at, first_at}
use Rattle.list_laws.specs.Signed.{eq_z, is_nat}
use Rattle.numbers.specs.declared.Address.{Address}
use Rattle.numbers.specs.declared.Mesh.{Mesh}
use Rattle.numbers.specs.Mesh.{count_of, mesh_of, doubled_mesh, MeshWithin}
use Rattle.grgrid.specs.Index.{grid_index}
use Rattle.question_grids.specs.Grids.{are_addresses, is_sparse_map, is_dense_map, triples_in}
use Rattle.bzgrid_lookup.specs.declared.GridKind.{GridKind}
use Rattle.bzgrid_lookup.specs.declared.GridKind.TheVariants.{Sparse, Dense}
use Rattle.bzgrid_lookup.specs.declared.BzGrid.{BzGrid}

-- the kind that a tested number names: 1 or 2
unfoldable pub kind_of : ℤ → GridKind
kind_of kind = cond (is_nat kind 1) Sparse Dense

-- the grid that tested numbers name
unfoldable pub grid_of : ℤ → List ℤ → BzGrid
grid_of kind diag = record { kind = kind_of kind; mesh = mesh_of diag }

-- address number j is w
unfoldable pub is_address : List ℤ → Address → ℕ → Bool
is_address addresses w j =
    (eq_z (at addresses (3 * j)) w.x && eq_z (at addresses (3 * j + 1)) w.y) && eq_z (at addresses (3 * j + 2)) w.z

-- what the map of kind 1 holds at an address "on the doubled mesh"
unfoldable pub map_on_doubled : Mesh → List ℤ → Address → ℕ
map_on_doubled m gp-map w = mag (at gp-map (grid_index w (doubled_mesh m)))

-- "Kind 1: look up the address in the map on the doubled mesh. The value 8N means missing; then the number is the grid index on D."
unfoldable pub sparse_neighbour : Mesh → List ℤ → Address → ℕ
sparse_neighbour m gp-map w = cond (eqb (map_on_doubled m gp-map w) (8 * count_of m)) (grid_index w m) (map_on_doubled m gp-map w)

-- "In a group of more than one, the first address equal to the wanted one ends the search; without a match the number is lo."
unfoldable pub in_group : List ℤ → Address → ℕ → ℕ → ℕ
in_group addresses w lo hi = cond (ltb 1 (hi - lo)) (first_at (is_address addresses w) lo (hi - lo) lo) lo

-- "Kind 2: lo and hi are the map at the index and one after."
unfoldable pub dense_neighbour : Mesh → List ℤ → List ℤ → Address → ℕ
dense_neighbour m addresses gp-map w = in_group addresses w (mag (at gp-map (grid_index w m))) (mag (at gp-map (grid_index w m + 1)))

-- one of two numbers, by the kind
abbrev pub by_kind : GridKind → ℕ → ℕ → ℕ
by_kind Sparse a b = a
by_kind Dense a b = b

-- the number of the grid point that stands for the address w
unfoldable pub neighbour_of : BzGrid → List ℤ → List ℤ → Address → ℕ
neighbour_of grid addresses gp-map w =
    by_kind grid.kind (sparse_neighbour grid.mesh gp-map w) (dense_neighbour grid.mesh addresses gp-map w)

-- component i of the address of point g, moved by step j
abbrev pub moved : List ℤ → List ℤ → ℕ → ℕ → ℕ → ℤ
moved addresses steps g j i = at addresses (3 * g + i) +ℤ at steps (3 * j + i)

-- the wanted address: that of point g, moved by step j
unfoldable pub wanted_address : List ℤ → List ℤ → ℕ → ℕ → Address
wanted_address addresses steps g j =
    record { x = moved addresses steps g j 0; y = moved addresses steps g j 1; z = moved addresses steps g j 2 }

-- question 6 of a map, by the kind
abbrev pub map_fits : GridKind → ℕ → ℕ → List ℤ → Bool
map_fits Sparse n p gp-map = is_sparse_map n p gp-map
map_fits Dense n p gp-map = is_dense_map n p gp-map

-- questions 4 to 6 are answered yes
pub record SoundGrid (grid : BzGrid) (addresses gp-map : List ℤ) : Type 0 where
  pub mesh : MeshWithin 128 grid.mesh
  pub addressed : are_addresses (count_of grid.mesh) addresses ≡ true
  pub mapped : map_fits grid.kind (count_of grid.mesh) (triples_in addresses) gp-map ≡ true
