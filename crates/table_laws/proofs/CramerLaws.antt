-- Cramer's rule for three places of whole numbers, by the polynomials of its two sides. Assumes nothing.
use mathlib.Core.Path.{◌≡◌, refl, ◌∙◌}
use mathlib.Core.List.{List, [], ◌∷◌}
use Prim.Native.Nat.{ℕ, zero, suc, ◌+◌, ◌<◌}
use native.Mathlib.Omega.{arith}
use lib.IntN.{ℤ, pos, ◌*ℤ◌}
use Rattle.list_laws.specs.Lists.{at}
use Rattle.ring_laws.specs.Expression.{Expr, var, nought, plus, minus, times}
use Rattle.ring_laws.proofs.IntegerLaws.{integers}
use Rattle.ring_laws.proofs.PolynomialLaws.{ring}
use Rattle.tetrahedron_tables.specs.Tables.{det}
use Rattle.table_rules.specs.Rows.{spanned}
use Rattle.table_rules.specs.Faces.{corner}
use Rattle.table_laws.specs.Meaning.{SamePlace, sum_at}

-- the determinant of three places as an expression
abbrev det_of : (ℕ → Expr) → (ℕ → Expr) → (ℕ → Expr) → Expr
det_of a b c =
    plus
    (minus
    (times (a 0) (minus (times (b 1) (c 2)) (times (b 2) (c 1))))
    (times (a 1) (minus (times (b 0) (c 2)) (times (b 2) (c 0)))))
    (times (a 2) (minus (times (b 0) (c 1)) (times (b 1) (c 0))))

-- the components of a, b, c and d as variables
abbrev A : ℕ → Expr
A k = var k

abbrev B : ℕ → Expr
B k = var (3 + k)

abbrev C : ℕ → Expr
C k = var (6 + k)

abbrev D : ℕ → Expr
D k = var (9 + k)

abbrev components : List ℤ → List ℤ → List ℤ → List ℤ → List ℤ
components a b c d =
    at a 0 ∷ at a 1 ∷ at a 2 ∷ at b 0 ∷ at b 1 ∷ at b 2 ∷ at c 0 ∷ at c 1 ∷ at c 2 ∷ at d 0 ∷ at d 1 ∷ at d 2 ∷ []

-- the same with x, y and z in place of d
abbrev factors : ℤ → ℤ → ℤ → List ℤ → List ℤ → List ℤ → List ℤ
factors x y z a b c =
    at a 0 ∷ at a 1 ∷ at a 2 ∷ at b 0 ∷ at b 1 ∷ at b 2 ∷ at c 0 ∷ at c 1 ∷ at c 2 ∷ x ∷ y ∷ z ∷ []

-- component k of the sum of x, y and z times a, b and c
abbrev X : Expr
X = var 9

abbrev Y : Expr
Y = var 10

abbrev Z : Expr
Z = var 11

abbrev sum_of : ℕ → Expr
sum_of k = plus (plus (times X (A k)) (times Y (B k))) (times Z (C k))

-- the left side of the rule
abbrev cramer_of : ℕ → Expr
cramer_of k = plus (plus (times (det_of D B C) (A k)) (times (det_of A D C) (B k))) (times (det_of A B D) (C k))

-- the determinants with d in place of a, of b and of c, times these three, add up to d times the determinant
module _ (a b c d : List ℤ) where
  pub cramer : (k : ℕ) → k < 3 → sum_at (spanned d b c) (spanned a d c) (spanned a b d) a b c k ≡ spanned a b c *ℤ at d k
  unfolding det
  cramer zero h = ring integers (cramer_of 0) (times (det_of A B C) (D 0)) (components a b c d) tt
  cramer (suc zero) h = ring integers (cramer_of 1) (times (det_of A B C) (D 1)) (components a b c d) tt
  cramer (suc (suc zero)) h = ring integers (cramer_of 2) (times (det_of A B C) (D 2)) (components a b c d) tt
  cramer (suc (suc (suc k))) h = absurd (omega arith)

-- and where d is x, y and z times these three, they are x, y and z times the determinant
module _ (a b c d : List ℤ) (x y z : ℤ) (is : (k : ℕ) → k < 3 → at d k ≡ sum_at x y z a b c k) where
  -- what a determinant reads of d
  of_sum : (f : List ℤ → ℤ) → f (at d 0 ∷ at d 1 ∷ at d 2 ∷ []) ≡ f (sum_at x y z a b c 0 ∷ sum_at x y z a b c 1 ∷ sum_at x y z a b c 2 ∷ [])
  of_sum f = λ i. f (is 0 (omega arith) i ∷ is 1 (omega arith) i ∷ is 2 (omega arith) i ∷ [])

  pub first-factor : spanned d b c ≡ x *ℤ spanned a b c
  unfolding det
  first-factor = of_sum (λ e. spanned e b c) ∙ ring integers (det_of sum_of B C) (times X (det_of A B C)) (factors x y z a b c) tt

  pub second-factor : spanned a d c ≡ y *ℤ spanned a b c
  unfolding det
  second-factor = of_sum (λ e. spanned a e c) ∙ ring integers (det_of A sum_of C) (times Y (det_of A B C)) (factors x y z a b c) tt

  pub third-factor : spanned a b d ≡ z *ℤ spanned a b c
  unfolding det
  third-factor = of_sum (λ e. spanned a b e) ∙ ring integers (det_of A B sum_of) (times Z (det_of A B C)) (factors x y z a b c) tt

-- ---- corners

-- the determinant of a row is that of its corners 1 to 3
pub row-spans : (row : List (List ℤ)) → det row ≡ spanned (corner row 1) (corner row 2) (corner row 3)
unfolding det
row-spans row = refl

-- a place twice has the determinant 0
module _ (a b c : List ℤ) where
  pub twice-first : SamePlace a b → spanned a b c ≡ pos 0
  unfolding det
  twice-first s =
      (λ i. spanned (s 0 (omega arith) i ∷ s 1 (omega arith) i ∷ s 2 (omega arith) i ∷ []) b c)
      ∙ ring integers (det_of B B C) nought (components a b c []) tt

  pub twice-second : SamePlace b c → spanned a b c ≡ pos 0
  unfolding det
  twice-second s =
      (λ i. spanned a (s 0 (omega arith) i ∷ s 1 (omega arith) i ∷ s 2 (omega arith) i ∷ []) c)
      ∙ ring integers (det_of A C C) nought (components a b c []) tt

  pub twice-third : SamePlace c a → spanned a b c ≡ pos 0
  unfolding det
  twice-third s =
      (λ i. spanned a b (s 0 (omega arith) i ∷ s 1 (omega arith) i ∷ s 2 (omega arith) i ∷ []))
      ∙ ring integers (det_of A B A) nought (components a b c []) tt
