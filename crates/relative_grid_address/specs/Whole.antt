-- A lattice of whole numbers (-0.0 is one too, 0), the squared lengths of its main diagonals as whole numbers, and which of them is the first of the shortest.
use Rattle.std.specs.Prelude.{◌≡◌, List, [], ◌⊎◌, ℕ, ◌+◌, ◌*◌, ◌^◌, ◌≤◌, ◌<◌, ℤ, pos, nat_abs, ◌+ℤ◌, ◌*ℤ◌, get_or, Float}
use Rattle.std.specs.Float.{nan, binary64}
use Rattle.std.specs.Float.Ieee.{of_int}
use Rattle.list_laws.specs.Lists.{at}
use Rattle.ieee_laws.specs.Zeros.{minus_zero}
use Rattle.common.specs.Matrix.{row_at}
use Rattle.relative_grid_address.specs.Diagonal.{main_diagonals}

-- "whole entries up to 2^20 in magnitude", the entry of row i and column j being l i j
abbrev pub UpTo20 : (ℕ → ℕ → ℤ) → Type 0
UpTo20 l = (i j : ℕ) → i < 3 → j < 3 → nat_abs (l i j) ≤ 2 ^ 20

-- the float x is the whole number z; -0.0 too is 0
abbrev pub IsWhole : Float → ℤ → Type 0
IsWhole x z = (x ≡ of_int binary64 z) ⊎ ((x ≡ minus_zero) × (z ≡ pos 0))

-- the nine entries of the lattice a are the whole numbers l i j
abbrev pub IsLatticeOf : List (List Float) → (ℕ → ℕ → ℤ) → Type 0
IsLatticeOf a l = (i j : ℕ) → i < 3 → j < 3 → IsWhole (get_or (row_at a i) j nan) (l i j)

-- component i of the lattice times the vector d
unfoldable pub component : (ℕ → ℕ → ℤ) → List ℤ → ℕ → ℤ
component l d i = (l i 0 *ℤ at d 0 +ℤ l i 1 *ℤ at d 1) +ℤ l i 2 *ℤ at d 2

-- the square of a whole number
abbrev pub square : ℤ → ℕ
square z = nat_abs z * nat_abs z

-- the squared length of main diagonal k
unfoldable pub squared_length : (ℕ → ℕ → ℤ) → ℕ → ℕ
unfolding component main_diagonals
squared_length l k = (square (c 0) + square (c 1)) + square (c 2)
  where
    c : ℕ → ℤ
    c i = component l (get_or main_diagonals k []) i

-- of the first `count` sizes, k is the first of the shortest: none is shorter, and each before it is longer
pub record FirstShortest (count : ℕ) (size : ℕ → ℕ) (k : ℕ) : Type 0 where
  pub counted : k < count
  pub shortest : (j : ℕ) → j < count → size k ≤ size j
  pub first : (j : ℕ) → j < k → size k < size j
