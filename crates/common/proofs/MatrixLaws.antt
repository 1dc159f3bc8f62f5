-- A tested vector has small components, and its product is the answer. Assumes nothing.
use mathlib.Core.Path.{◌≡◌}
use mathlib.Core.Bool.{true, ◌&&◌}
use mathlib.Core.List.{List}
use Prim.Native.Nat.{ℕ, zero, suc, ◌<◌}
use native.Mathlib.Omega.{arith}
use lib.IntN.{ℤ}
use Rattle.list_laws.specs.Lists.{at}
use Rattle.list_laws.specs.Signed.{within}
use Rattle.list_laws.proofs.BoolLaws.{and_left, and_right}
use Rattle.common.specs.Matrix.{is_vector}

pub vector-at : (b : List ℤ) (i : ℕ) → i < 3 → is_vector b ≡ true → within 4096 (at b i) ≡ true
unfolding is_vector
vector-at b zero h e = and_left (within 4096 (at b 0)) (within 4096 (at b 1)) (and_left (within 4096 (at b 0) && within 4096 (at b 1)) (within 4096 (at b 2)) e)
vector-at b (suc zero) h e = and_right (within 4096 (at b 0)) (within 4096 (at b 1)) (and_left (within 4096 (at b 0) && within 4096 (at b 1)) (within 4096 (at b 2)) e)
vector-at b (suc (suc zero)) h e = and_right (within 4096 (at b 0) && within 4096 (at b 1)) (within 4096 (at b 2)) e
vector-at b (suc (suc (suc i))) h e = absurd (omega arith)
