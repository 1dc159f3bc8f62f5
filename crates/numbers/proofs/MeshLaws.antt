-- Mesh numbers and their product, of the mesh and of the doubled mesh. Assumes nothing.
use mathlib.Core.Path.{◌≡◌}
use Prim.Native.Nat.{ℕ, ◌*◌, ◌≤◌}
use native.Mathlib.Nat.{mul-le-mul}
use native.Mathlib.Omega.{arith}
use Rattle.list_laws.proofs.ProductLaws.{three-twos}
use Rattle.numbers.specs.declared.Mesh.{Mesh}
use Rattle.numbers.specs.Mesh.{count_of, doubled_mesh, MeshWithin}

module _ {m : Mesh} where
  pub wider : {low high : ℕ} → low ≤ high → MeshWithin low m → MeshWithin high m
  wider h w =
      record {
        low0 = w.low0;
        low1 = w.low1;
        low2 = w.low2;
        high0 = omega arith;
        high1 = omega arith;
        high2 = omega arith;
      }

  pub doubled : {top : ℕ} → MeshWithin top m → MeshWithin (2 * top) (doubled_mesh m)
  doubled w =
      record {
        low0 = omega arith;
        low1 = omega arith;
        low2 = omega arith;
        high0 = omega arith;
        high1 = omega arith;
        high2 = omega arith;
      }

  pub count-le : {top : ℕ} → MeshWithin top m → count_of m ≤ top * (top * top)
  unfolding count_of
  count-le w = mul-le-mul w.high2 (mul-le-mul w.high0 w.high1)

-- the doubled mesh has 8N points
pub count-doubled : (m : Mesh) → count_of (doubled_mesh m) ≡ 8 * count_of m
unfolding count_of
count-doubled m = three-twos m.d0 m.d1 m.d2
