-- The grid index is below the number of grid points. Assumes nothing.
use Prim.Native.Nat.{ℕ, ◌+◌, ◌*◌, ◌<◌}
use native.Mathlib.Nat.{mul_comm}
use native.Mathlib.Omega.{arith}
use Rattle.list_laws.specs.Signed.{rem_euclid}
use Rattle.list_laws.proofs.ProductLaws.{digit_lt}
use Rattle.list_laws.proofs.SignedLaws.{rem_lt}
use Rattle.numbers.specs.declared.Address.{Address}
use Rattle.numbers.specs.declared.Mesh.{Mesh}
use Rattle.numbers.specs.Mesh.{count_of, MeshWithin}
use Rattle.numbers.proofs.MeshLaws.{count-le}
use Rattle.grgrid.specs.Index.{grid_index}

module _ {top : ℕ} {m : Mesh} (w : MeshWithin top m) (a : Address) where
  -- the two lower digits
  pub index-low : rem_euclid a.y m.d1 * m.d0 + rem_euclid a.x m.d0 < m.d0 * m.d1
  index-low =
      omega (
        arith,
        mul_comm m.d0 m.d1,
        digit_lt (rem_euclid a.y m.d1) m.d1 (rem_euclid a.x m.d0) m.d0 (rem_lt a.y w.low1) (rem_lt a.x w.low0),
      )

  pub index-lt : grid_index a m < count_of m
  unfolding grid_index count_of
  index-lt =
      omega (
        arith,
        digit_lt (rem_euclid a.z m.d2) m.d2 (rem_euclid a.y m.d1 * m.d0 + rem_euclid a.x m.d0) (m.d0 * m.d1) (rem_lt a.z w.low2) index-low,
      )

-- by one name, for the attributes of functions
pub ruleset index_laws = (index-lt, count-le)
