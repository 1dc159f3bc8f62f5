-- A lattice times a whole vector, and the questions on both.
use Rattle.std.specs.Prelude.{Bool, ◌&&◌, List, [], ◌∷◌, ℕ, ℤ, get_or, Float}
use Rattle.std.specs.Float.{nan, binary64}
use Rattle.std.specs.Float.Ieee.{of_bits, of_int, le, add, mul}
use Rattle.std.specs.declared.result.Result.{Result}
use Rattle.ask.specs.Ask.{Question, asks, first_no}
use Rattle.ask.specs.Refusals.{answer_of}
use Rattle.ask.specs.declared.refusal.Refusal.{Refusal}
use Rattle.list_laws.specs.Lists.{at}
use Rattle.list_laws.specs.Signed.{within}
use Rattle.ieee_laws.specs.Magnitude.{absolute}

-- 2^30
abbrev pub lattice_limit : Float
lattice_limit = of_bits binary64 0x41D0_0000_0000_0000

-- "finite, magnitude at most 2^30"
unfoldable pub is_lattice_entry : Float → Bool
is_lattice_entry x = le (absolute x) lattice_limit

-- row i of the lattice
abbrev pub row_at : List (List Float) → ℕ → List Float
row_at a i = get_or a i []

-- the three entries of one row
unfoldable pub is_lattice_row : List Float → Bool
is_lattice_row r = (is_lattice_entry (get_or r 0 nan) && is_lattice_entry (get_or r 1 nan)) && is_lattice_entry (get_or r 2 nan)

-- Question 2: each of the nine lattice entries.
unfoldable pub is_lattice : List (List Float) → Bool
is_lattice a = (is_lattice_row (row_at a 0) && is_lattice_row (row_at a 1)) && is_lattice_row (row_at a 2)

-- Question 7 of a vector: components within ±4,096.
unfoldable pub is_vector : List ℤ → Bool
is_vector b = (within 4096 (at b 0) && within 4096 (at b 1)) && within 4096 (at b 2)

-- one row of the lattice times the vector: three products, added from the left, each operation rounded once
unfoldable pub row_times : List Float → List ℤ → Float
row_times r b =
    add binary64
    (add binary64 (mul binary64 (get_or r 0 nan) (of_int binary64 (at b 0))) (mul binary64 (get_or r 1 nan) (of_int binary64 (at b 1))))
    (mul binary64 (get_or r 2 nan) (of_int binary64 (at b 2)))

-- `matvec_di`: the lattice times the vector
unfoldable pub matvec_of : List (List Float) → List ℤ → List Float
matvec_of a b = row_times (row_at a 0) b ∷ row_times (row_at a 1) b ∷ row_times (row_at a 2) b ∷ []

-- The questions of `matvec_di`: 2 the lattice; "its vector falls under question 7's ±4,096"
abbrev pub matvec_questions : List (List Float) → List ℤ → List Question
matvec_questions a b = asks 2 (is_lattice a) ∷ asks 7 (is_vector b) ∷ []

-- The answer of `matvec_di`: the product, or the refusal.
unfoldable pub matvec_answer : List (List Float) → List ℤ → Result (List Float) Refusal
matvec_answer a b = answer_of (first_no (matvec_questions a b)) (matvec_of a b)
