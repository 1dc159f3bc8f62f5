-- The mesh numbers D0, D1, D2 of a grid, once they are tested.
use Rattle.std.specs.Prelude.{List, ℕ, ◌*◌, ◌≤◌, ℤ}
use Rattle.std.specs.Int.Signed.{mag}
use Rattle.list_laws.specs.Lists.{at}
use Rattle.numbers.specs.declared.Mesh.{Mesh}

-- N, "the product of the mesh numbers D"
unfoldable pub count_of : Mesh → ℕ
count_of m = m.d2 * (m.d0 * m.d1)

-- the mesh numbers as natural numbers
unfoldable pub mesh_of : List ℤ → Mesh
mesh_of diag = record { d0 = mag (at diag 0); d1 = mag (at diag 1); d2 = mag (at diag 2) }

-- the mesh with each number doubled
abbrev pub doubled_mesh : Mesh → Mesh
doubled_mesh m = record { d0 = 2 * m.d0; d1 = 2 * m.d1; d2 = 2 * m.d2 }

-- each mesh number is from 1 to top
pub record MeshWithin (top : ℕ) (m : Mesh) : Type 0 where
  pub low0 : 1 ≤ m.d0
  pub low1 : 1 ≤ m.d1
  pub low2 : 1 ≤ m.d2
  pub high0 : m.d0 ≤ top
  pub high1 : m.d1 ≤ top
  pub high2 : m.d2 ≤ top
