-- The main diagonals are small vectors, and one turn of the search for the least length. Assumes nothing.
use mathlib.Core.Path.{◌≡◌, refl}
use mathlib.Core.Bool.{Bool, true, false, cond}
use mathlib.Core.List.{[]}
use Prim.Native.Nat.{ℕ, zero, suc, ◌+◌, ◌-◌, ◌≤◌, ◌<◌}
use native.Mathlib.Omega.{arith}
use lib.ListN.{get_or}
use lib.Ieee.{Float, lt}
use Rattle.list_laws.specs.Signed.{within}
use Rattle.common.specs.Matrix.{is_vector}
use Rattle.relative_grid_address.specs.Diagonal.{main_diagonals, length_of, least_up_to, main_diagonal_of}

pub diagonal_small : (i : ℕ) → i < 4 → is_vector (get_or main_diagonals i []) ≡ true
unfolding is_vector within main_diagonals
diagonal_small zero h = refl
diagonal_small (suc zero) h = refl
diagonal_small (suc (suc zero)) h = refl
diagonal_small (suc (suc (suc zero))) h = refl
diagonal_small (suc (suc (suc (suc i)))) h = absurd (omega arith)

module _ (size : ℕ → Float) where
  pub least-none : 0 ≡ least_up_to size (1 - 1)
  unfolding least_up_to
  least-none = refl

  -- the next size is less, and is taken
  pub least-take : (i s : ℕ) → 1 ≤ i → s ≡ least_up_to size (i - 1) → lt (size i) (size s) ≡ true → i ≡ least_up_to size (i + 1 - 1)
  unfolding least_up_to
  least-take i s h e t =
      let n : ℕ = i - 1 in
      let k : i ≡ suc n = omega arith in
      let m : i + 1 - 1 ≡ suc n = omega arith in
      rw (m, ← k, ← e, t)

  -- it is not, and is passed
  pub least-keep : (i s : ℕ) → 1 ≤ i → s ≡ least_up_to size (i - 1) → lt (size i) (size s) ≡ false → s ≡ least_up_to size (i + 1 - 1)
  unfolding least_up_to
  least-keep i s h e t =
      let n : ℕ = i - 1 in
      let k : i ≡ suc n = omega arith in
      let m : i + 1 - 1 ≡ suc n = omega arith in
      rw (m, ← k, ← e, t)

  pub least-le : (n : ℕ) → least_up_to size n ≤ n
  unfolding least_up_to
  least-le zero = omega arith
  least-le (suc n) = go (lt (size (suc n)) (size (least_up_to size n))) (least-le n)
    where
      go : (b : Bool) → least_up_to size n ≤ n → cond b (suc n) (least_up_to size n) ≤ suc n
      go true h = omega arith
      go false h = omega arith

pub main_diagonal_lt : (a : _) → main_diagonal_of a < 4
unfolding main_diagonal_of
main_diagonal_lt a = omega (arith, least-le (length_of a) 3)
