-- What the questions on a table mean: the rows of question 23, the two rows at each face of question 24 and the factors of the direction of question 25. A table passes exactly where it is such a fan of rows: proofs/FanLaws.
use Rattle.std.specs.Prelude.{◌≡◌, ◌≢◌, ◌⊎◌, true, List, [], ◌∷◌, ℕ, ◌≤◌, ◌<◌, ℤ, pos, negsuc, ◌+ℤ◌, ◌*ℤ◌, ◌<ℤ◌, nat_abs, get_or, length}
use Rattle.list_laws.specs.Lists.{at}
use Rattle.list_laws.specs.Matching.{ExactlyOne}
use Rattle.tetrahedron_tables.specs.Tables.{det}
use Rattle.table_rules.specs.Rows.{row_at, rows_of, spanned}
use Rattle.table_rules.specs.Faces.{corner, side, has_face, lies_above, lies_below}
use Rattle.table_rules.specs.Cones.{direction}

-- row r of a list of rows
abbrev pub row_in : List (List (List ℤ)) → ℕ → List (List ℤ)
row_in rows r = get_or rows r []

-- ---- question 23

-- the determinant of a row is 1 or -1
abbrev pub IsUnit : List (List ℤ) → Type 0
IsUnit row = (det row ≡ pos 1) ⊎ (det row ≡ negsuc 0)

-- 24 rows of four corners of three components, no component past ±2; of each row the first corner zero and the determinant of the others 1 or -1
pub record UnitRows (table : List ℤ) : Type 0 where
  pub size : length table ≡ 288
  pub small : (k : ℕ) → k < length table → nat_abs (at table k) ≤ 2
  pub first_corner : (r : ℕ) → r < 24 → corner (row_at table r) 0 ≡ pos 0 ∷ pos 0 ∷ pos 0 ∷ []
  pub volume : (r : ℕ) → r < 24 → IsUnit (row_at table r)

-- ---- question 24

-- two corners are one point
abbrev pub SamePlace : List ℤ → List ℤ → Type 0
SamePlace p a = (k : ℕ) → k < 3 → at p k ≡ at a k

-- corners p and q are a and b, in either order
abbrev pub MakeFace : List ℤ → List ℤ → List ℤ → List ℤ → Type 0
MakeFace p q a b = (SamePlace p a × SamePlace q b) ⊎ (SamePlace p b × SamePlace q a)

-- the row has the face a, b: two of its corners 1 to 3 make it, and its third is the remaining one
abbrev pub HasFace : List (List ℤ) → List ℤ → List ℤ → ℕ → Type 0
HasFace row a b third =
    (MakeFace (corner row 1) (corner row 2) a b × (third ≡ 3))
    ⊎ ((MakeFace (corner row 2) (corner row 3) a b × (third ≡ 1)) ⊎ (MakeFace (corner row 3) (corner row 1) a b × (third ≡ 2)))

-- exactly two rows have the face a, b, and their third corners lie on opposite sides of it
pub record TwoRows (rows : List (List (List ℤ))) (a b : List ℤ) : Type 0 where
  pub one : ℕ
  pub other : ℕ
  pub one_below : one < 24
  pub other_below : other < 24
  pub apart : one ≢ other
  pub one_third : ℕ
  pub other_third : ℕ
  pub one_has : HasFace (row_in rows one) a b one_third
  pub other_has : HasFace (row_in rows other) a b other_third
  pub above : pos 0 <ℤ spanned a b (corner (row_in rows one) one_third)
  pub under : spanned a b (corner (row_in rows other) other_third) <ℤ pos 0
  pub only : (s third : ℕ) → s < 24 → HasFace (row_in rows s) a b third → (s ≡ one) ⊎ (s ≡ other)

-- the same by the sides that are computed: exactly one row lies on the one side, exactly one on the other, these are two rows, and no further row has the face
pub record Paired (rows : List (List (List ℤ))) (a b : List ℤ) : Type 0 where
  pub one : ExactlyOne 24 (λ s. lies_above (side (row_in rows s) a b) ≡ true)
  pub other : ExactlyOne 24 (λ s. lies_below (side (row_in rows s) a b) ≡ true)
  pub apart : one.which ≢ other.which
  pub only : (s : ℕ) → s < 24 → has_face (side (row_in rows s) a b) ≡ true → (s ≡ one.which) ⊎ (s ≡ other.which)

-- P holds of each face of each row
abbrev pub EachFace : (List ℤ → List ℤ → Type 0) → List (List (List ℤ)) → Type 0
EachFace P rows =
    (r : ℕ) → r < 24
    → P (corner (row_in rows r) 1) (corner (row_in rows r) 2) × P (corner (row_in rows r) 2) (corner (row_in rows r) 3) × P (corner (row_in rows r) 3) (corner (row_in rows r) 1)

-- ---- question 25

-- component k of x, y and z times the places a, b and c
abbrev pub sum_at : ℤ → ℤ → ℤ → List ℤ → List ℤ → List ℤ → ℕ → ℤ
sum_at x y z a b c k = (x *ℤ at a k +ℤ y *ℤ at b k) +ℤ z *ℤ at c k

-- the direction lies strictly inside the row's cone: it is the sum of x, y and z times the corners 1, 2 and 3, all three above 0; with determinant 1 or -1 the factors of each place are whole numbers
pub record Inside (row : List (List ℤ)) : Type 0 where
  pub x : ℤ
  pub y : ℤ
  pub z : ℤ
  pub positive_x : pos 0 <ℤ x
  pub positive_y : pos 0 <ℤ y
  pub positive_z : pos 0 <ℤ z
  pub is_sum : (k : ℕ) → k < 3 → at direction k ≡ sum_at x y z (corner row 1) (corner row 2) (corner row 3) k

-- of the 24 rows exactly one has it inside
abbrev pub InOne : List (List (List ℤ)) → Type 0
InOne rows = ExactlyOne 24 (λ r. Inside (row_in rows r))

-- ---- all of them

-- what a table has that passes
pub record Fan (table : List ℤ) : Type 0 where
  pub units : UnitRows table
  pub faces : EachFace (TwoRows (rows_of table)) (rows_of table)
  pub cone : InOne (rows_of table)
