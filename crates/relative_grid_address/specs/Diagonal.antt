-- The main diagonals of the unit cell and the one that is shortest in a reciprocal lattice.
use Rattle.std.specs.Prelude.{cond, List, [], ◌∷◌, ℕ, zero, suc, ℤ, pos, negsuc, get_or, Float}
use Rattle.std.specs.Float.{nan, binary64}
use Rattle.std.specs.Float.Ieee.{add, mul, lt}
use Rattle.common.specs.Matrix.{matvec_of}

-- the four main diagonals: 0-7, 1-6, 2-5 and 3-4 of the cell's eight vertices
unfoldable pub main_diagonals : List (List ℤ)
main_diagonals =
    (pos 1 ∷ pos 1 ∷ pos 1 ∷ [])
    ∷ (negsuc 0 ∷ pos 1 ∷ pos 1 ∷ [])
    ∷ (pos 1 ∷ negsuc 0 ∷ pos 1 ∷ [])
    ∷ (pos 1 ∷ pos 1 ∷ negsuc 0 ∷ [])
    ∷ []

-- `norm_squared`: the sum of the three squares, added from the left, each operation rounded once
unfoldable pub norm_squared : List Float → Float
unfolding add mul
norm_squared a =
    add binary64
    (add binary64 (mul binary64 (get_or a 0 nan) (get_or a 0 nan)) (mul binary64 (get_or a 1 nan) (get_or a 1 nan)))
    (mul binary64 (get_or a 2 nan) (get_or a 2 nan))

-- the squared length of main diagonal i in the lattice
unfoldable pub length_of : List (List Float) → ℕ → Float
unfolding norm_squared matvec_of main_diagonals
length_of a i = norm_squared (matvec_of a (get_or main_diagonals i []))

-- of the sizes 0, 1, .., n the least, the first on a tie: a later one is taken only where it is less
unfoldable pub least_up_to : (ℕ → Float) → ℕ → ℕ
unfolding lt
least_up_to size zero = 0
least_up_to size (suc n) = cond (lt (size (suc n)) (size (least_up_to size n))) (suc n) (least_up_to size n)

-- "The diagonal with least `norm_squared` picks the table, the first on a tie."
unfoldable pub main_diagonal_of : List (List Float) → ℕ
unfolding length_of least_up_to
main_diagonal_of a = least_up_to (length_of a) 3
