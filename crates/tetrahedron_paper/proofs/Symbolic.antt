-- The paper's text at expressions: operations that build an expression, so that the value of a formula's expression in a field is, by computation, the formula in that field. No formula is written a second time.
use Prim.Native.Nat.{ℕ, ◌+◌, ◌*◌, ◌-◌, ◌/◌}
use mathlib.Core.Bool.{Bool, cond, ◌&&◌}
use lib.Dec.{ltb, eqb}
use Rattle.ring_laws.specs.Expression.{Expr, var, nought, unit, plus, minus, times}
use Rattle.tetrahedron_paper.specs.Operations.{Operations}

-- a number that tells the divisors of the formulas apart: 1 the span, 5 three, 7 four, 15 and 13 the two sums that the shares I are divided by
abbrev pub mark : Expr → ℕ
mark (var i) = 1
mark nought = 1
mark unit = 1
mark (plus a b) = 1 + mark a + mark b
mark (minus a b) = 1 + mark a + mark b
mark (times a b) = 1 + mark a + 2 * mark b

-- the variable that stands for a divisor's inverse
abbrev pub inverse : Expr → Expr
inverse d = let k = mark d in var (cond (eqb k 1) 9 (cond (eqb k 5) 12 (cond (eqb k 7) 13 (cond (eqb k 15) 15 16))))

abbrev pub three : Expr
three = plus (plus unit unit) unit

abbrev pub four : Expr
four = plus (plus (plus unit unit) unit) unit

abbrev pub two : Expr
two = plus unit unit

abbrev pub five : Expr
five = plus four unit

abbrev pub symbolic : Operations
symbolic = record {
  C = Expr;
  none = nought;
  one = unit;
  three = three;
  four = four;
  quarter = inverse four;
  plus = plus;
  minus = minus;
  times = times;
  over = λ x y. times x (inverse y);
  apart = λ d x. x;
  guard = λ d x. x;
}

-- m < n < 4
abbrev pub inner : ℕ → ℕ → Bool
inner m n = ltb m n && ltb n 4

-- the place of the pair n, m with m < n < 4: 1 0, 2 0, 2 1, 3 0, 3 1, 3 2
abbrev pub pair : ℕ → ℕ → ℕ
pair n m = n * (n - 1) / 2 + m

-- a table by pairs: one entry below the diagonal, one above, one elsewhere
abbrev pub table : (A : Type 0) → (ℕ → ℕ → A) → (ℕ → ℕ → A) → (ℕ → ℕ → A) → ℕ → ℕ → A
table A lower upper other n m = cond (inner m n) (lower n m) (cond (inner n m) (upper n m) (other n m))

-- f(n, m) and the inverse of v n - v m, for m < n
abbrev pub x : ℕ → ℕ → Expr
x n m = var (pair n m)

abbrev pub r : ℕ → ℕ → Expr
r n m = var (6 + pair n m)

-- f(n, m) for every n and m: above the diagonal 1 - f(m, n)
abbrev pub f_s : ℕ → ℕ → Expr
f_s = table Expr x (λ n m. minus unit (x m n)) (λ n m. nought)

-- the same with its derivative, given those of omega and of the vertices
module _ (dw : Expr) (dv : ℕ → Expr) where
  abbrev pub slope : ℕ → ℕ → Expr
  slope n m = times (minus (minus dw (dv m)) (times (x n m) (minus (dv n) (dv m)))) (r n m)

  abbrev pub f_d : ℕ → ℕ → Expr × Expr
  f_d = table (Expr × Expr) (λ n m. (x n m, slope n m)) (λ n m. (minus unit (x m n), minus nought (slope m n))) (λ n m. (nought, nought))

abbrev pub span : Expr
span = var 14

-- the inverses of three, of four, and of the two sums that the shares I are divided by
abbrev pub t : Expr
t = var 12

abbrev pub q : Expr
q = var 13

abbrev pub y : Expr
y = var 15

abbrev pub y' : Expr
y' = var 16

abbrev pub w : Expr
w = var 17

abbrev pub v : ℕ → Expr
v k = var (18 + k)
