-- In every field: the derivative of the number n of states is the density g, and for each vertex the derivative of its states J n is its density I g. The derivative is taken by dual numbers, of the paper's own text.
use mathlib.Core.Path.{◌≡◌, sym, ◌∙◌}
use mathlib.Core.Logic.{◌≢◌}
use Prim.Native.Nat.{ℕ, zero, suc}
use mathlib.Core.List.{List, [], ◌∷◌}
use native.Mathlib.Omega.{arith}
use Rattle.ring_laws.specs.Ring.{Field}
use Rattle.ring_laws.specs.Expression.{Expr, var, nought, unit, plus, minus, times}
use Rattle.ring_laws.specs.Polynomial.{Given, given, Hold}
use Rattle.ring_laws.proofs.PolynomialLaws.{modulo}
use Rattle.tetrahedron_paper.specs.Operations.{Operations, exact, dual}
use Rattle.tetrahedron_paper.specs.Paper as P
use Rattle.tetrahedron_paper.proofs.Symbolic as S
use Rattle.tetrahedron_paper.proofs.Symbolic.{symbolic}
use Rattle.tetrahedron_paper.proofs.Quotients as Q
use Rattle.tetrahedron_paper.proofs.Quotients.{Apart}
use Rattle.tetrahedron_paper.proofs.Shares as H
use Rattle.tetrahedron_paper.proofs.Shares.{area_s, env}

-- ---- what is given in each range, with cofactors

-- f(1,0) r(3,0) = f(3,0) r(1,0), and the same of vertex 2
abbrev pub from_first : Expr → Expr → List Given → List Given
from_first c d s = given c (times (S.x 1 0) (S.r 3 0)) (times (S.x 3 0) (S.r 1 0)) ∷ given d (times (S.x 2 0) (S.r 3 0)) (times (S.x 3 0) (S.r 2 0)) ∷ s

-- f(0,3) r(3,1) = f(1,3) r(3,0), and the same of vertex 2
abbrev pub to_last : Expr → Expr → List Given → List Given
to_last c d s = given c (times (S.f_s 0 3) (S.r 3 1)) (times (S.f_s 1 3) (S.r 3 0)) ∷ given d (times (S.f_s 0 3) (S.r 3 2)) (times (S.f_s 2 3) (S.r 3 0)) ∷ s

abbrev pub between : Expr → Expr → Expr → Expr → List Given → List Given
between c d e f s =
    given c (times (S.x 3 1) (S.r 2 1)) (times (S.x 2 1) (S.r 3 1))
    ∷ given d (times (S.x 3 0) (S.r 2 0)) (times (S.x 2 0) (S.r 3 0))
    ∷ given e (times (S.f_s 0 3) (S.r 3 1)) (times (S.f_s 1 3) (S.r 3 0))
    ∷ given f (times (S.f_s 0 2) (S.r 2 1)) (times (S.f_s 1 2) (S.r 2 0)) ∷ s

-- 4 q = 1 and 3 t = 1: a share's numerator times the density by three
abbrev quarters : Expr → Expr → List Given → List Given
quarters e f s = given e (times S.four S.q) unit ∷ given (minus nought f) (times S.three S.t) unit ∷ s

-- the certificates of one vertex: the cofactors, and its share's numerator
abbrev first : Expr → Expr → Expr → List Given
first c d share =
    let e = times share (times (times (S.x 1 0) (S.x 2 0)) (S.r 3 0)) in
    from_first (times S.q c) (times S.q d) (quarters e e [])

abbrev last : Expr → Expr → Expr → List Given
last c d share =
    let e = times share (times (times (S.f_s 1 3) (S.f_s 2 3)) (S.r 3 0)) in
    to_last (times S.q c) (times S.q d) (quarters e e [])

-- between the second and the third the numerator is one + other / area, area in one of two orders, with its inverse
abbrev middle : Expr → Expr → Expr → Expr → Expr → Expr → Expr → Expr → List Given
middle c d e f one other area inverse =
    between (times S.q c) (times S.q d) (times S.q e) (times S.q f)
    (quarters
    (times (S.r 3 0) (plus (times one area) other))
    (times (S.r 3 0) (plus (times one area) (times other (times area inverse))))
    (given (minus nought (times (S.r 3 0) other)) (times area inverse) unit ∷ []))

abbrev pub area'_s : Expr
area'_s = plus (times (S.f_s 1 2) (S.f_s 2 0)) (times (S.f_s 1 3) (S.f_s 2 1))

module _ (F : Field) (w : F.ring.C) (v : ℕ → F.ring.C) where
  open F.ring use {C, one, add, neg, mul}

  -- dual numbers over the field
  abbrev pub D : Operations
  D = dual (exact F)

  -- omega with the derivative 1, the vertices with the derivative 0
  abbrev pub omega' : C × C
  omega' = (w, one)

  abbrev pub v' : ℕ → C × C
  v' k = (v k, F.ring.zero)

  abbrev x' : ℕ → ℕ → C × C
  x' = Q.x' F w v one (λ k. F.ring.zero)

  x'-all : Apart F w v → (λ n m. x' n m) ≡ Q.f_e' F w v one (λ k. F.ring.zero)
  x'-all = Q.x'-all F w v one (λ k. F.ring.zero)

  abbrev pub span' : C × C
  span' = (H.span F w v, Q.less F w v F.ring.zero F.ring.zero)

  -- ---- what holds

  pub first_holds : (c d : Expr) (s : List Given) → Hold F.ring s (env F w v) → Hold F.ring (from_first c d s) (env F w v)
  first_holds c d s h = (Q.from_one F w v 1 3 0, (Q.from_one F w v 2 3 0, h))

  pub last-holds : (c d : Expr) (s : List Given) → Apart F w v → Hold F.ring s (env F w v) → Hold F.ring (to_last c d s) (env F w v)
  last-holds c d s a h =
      (Q.to_one F w v 3 0 1 (a 3 0 (omega arith) (omega arith)) (a 3 1 (omega arith) (omega arith)), (Q.to_one F w v 3 0 2 (a 3 0 (omega arith) (omega arith)) (a 3 2 (omega arith) (omega arith)), h))

  pub between-holds : (c d e f : Expr) (s : List Given) → Apart F w v → Hold F.ring s (env F w v) → Hold F.ring (between c d e f s) (env F w v)
  between-holds c d e f s a h = (
    Q.from_one F w v 3 2 1,
    (
      Q.from_one F w v 3 2 0,
      (
        Q.to_one F w v 3 0 1 (a 3 0 (omega arith) (omega arith)) (a 3 1 (omega arith) (omega arith)),
        (
          Q.to_one F w v 2 0 1 (a 2 0 (omega arith) (omega arith)) (a 2 1 (omega arith) (omega arith)),
          h,
        ),
      ),
    ),
  )

  -- ---- the derivative of the number of states is the density

  pub number-1 : Apart F w v → (P.n_of D omega' v' 1).1 ≡ P.g_of (exact F) w v 1
  unfolding P.n_of P.g_of
  number-1 a =
      (λ i. (P.n_by D (x'-all a i) 1).1)
      ∙ modulo F.ring (P.n_by (dual symbolic) (S.f_d unit (λ k. nought)) 1).1 (P.g_by symbolic S.f_s S.span 1)
      (from_first (minus nought (S.x 2 0)) (minus nought (S.x 1 0)) [])
      (env F w v) tt (first_holds (minus nought (S.x 2 0)) (minus nought (S.x 1 0)) [] tt)
      ∙ (λ i. P.g_by (exact F) (sym (Q.x-all F w v a) i) (H.span F w v) 1)

  pub number-2 : Apart F w v → (P.n_of D omega' v' 2).1 ≡ P.g_of (exact F) w v 2
  unfolding P.n_of P.g_of
  number-2 a =
      (λ i. (P.n_by D (x'-all a i) 2).1)
      ∙ modulo F.ring (P.n_by (dual symbolic) (S.f_d unit (λ k. nought)) 2).1 (P.g_by symbolic S.f_s S.span 2)
      (between (S.f_s 0 3) (times S.two (S.f_s 1 2)) (times S.two (S.x 2 1)) (S.x 3 0) [])
      (env F w v) tt (between-holds (S.f_s 0 3) (times S.two (S.f_s 1 2)) (times S.two (S.x 2 1)) (S.x 3 0) [] a tt)
      ∙ (λ i. P.g_by (exact F) (sym (Q.x-all F w v a) i) (H.span F w v) 2)

  pub number-3 : Apart F w v → (P.n_of D omega' v' 3).1 ≡ P.g_of (exact F) w v 3
  unfolding P.n_of P.g_of
  number-3 a =
      (λ i. (P.n_by D (x'-all a i) 3).1)
      ∙ modulo F.ring (P.n_by (dual symbolic) (S.f_d unit (λ k. nought)) 3).1 (P.g_by symbolic S.f_s S.span 3)
      (to_last (S.f_s 2 3) (S.f_s 1 3) [])
      (env F w v) tt (last-holds (S.f_s 2 3) (S.f_s 1 3) [] a tt)
      ∙ (λ i. P.g_by (exact F) (sym (Q.x-all F w v a) i) (H.span F w v) 3)

  -- ---- for each vertex the derivative of its states is its density

  -- the derivative of a quotient by n, times n
  cancel' : (s n : C × C) → n.0 ≢ F.ring.zero → (D.times (D.over s n) n).1 ≡ s.1
  cancel' s n h =
      modulo F.ring
      (plus (times (times (var 0) (var 4)) (var 3)) (times (times (minus (var 1) (times (times (var 0) (var 4)) (var 3))) (var 4)) (var 2)))
      (var 1)
      (given (minus (var 1) (times (times (var 0) (var 4)) (var 3))) (times (var 2) (var 4)) unit ∷ [])
      (s.0 ∷ s.1 ∷ n.0 ∷ n.1 ∷ F.inv n.0 ∷ []) tt (F.mul-inv n.0 h, tt)

  -- the density I g by the six quotients
  pub density : (b k : ℕ) → Apart F w v → mul (P.i_by (exact F) (Q.f_e F w v) b k) (P.g_by (exact F) (Q.f_e F w v) (H.span F w v) b) ≡ P.density_share (exact F) w v b k
  unfolding P.i_of P.g_of
  density b k a = λ i. mul (P.i_by (exact F) (sym (Q.x-all F w v a) i) b k) (P.g_by (exact F) (sym (Q.x-all F w v a) i) (H.span F w v) b)

  first-vertex : (c d share : Expr) → Apart F w v → H.three F w v ≢ F.ring.zero → H.four F w v ≢ F.ring.zero → Hold F.ring (first c d share) (env F w v)
  first-vertex c d share a h3 h4 =
      let e = times share (times (times (S.x 1 0) (S.x 2 0)) (S.r 3 0)) in
      first_holds (times S.q c) (times S.q d) (quarters e e []) (F.mul-inv (H.four F w v) h4, (F.mul-inv (H.three F w v) h3, tt))

  last-vertex : (c d share : Expr) → Apart F w v → H.three F w v ≢ F.ring.zero → H.four F w v ≢ F.ring.zero → Hold F.ring (last c d share) (env F w v)
  last-vertex c d share a h3 h4 =
      let e = times share (times (times (S.f_s 1 3) (S.f_s 2 3)) (S.r 3 0)) in
      last-holds (times S.q c) (times S.q d) (quarters e e []) a (F.mul-inv (H.four F w v) h4, (F.mul-inv (H.three F w v) h3, tt))

  vertex-10 : Apart F w v → H.three F w v ≢ F.ring.zero → H.four F w v ≢ F.ring.zero → (P.states_share D omega' v' 1 0).1 ≡ P.density_share (exact F) w v 1 0
  unfolding P.j_of P.n_of
  vertex-10 a h3 h4 =
      (λ i. (D.times (P.j_by D (x'-all a i) 1 0) (P.n_by D (x'-all a i) 1)).1)
      ∙ modulo F.ring ((dual symbolic).times (P.j_by (dual symbolic) (S.f_d unit (λ k. nought)) 1 0) (P.n_by (dual symbolic) (S.f_d unit (λ k. nought)) 1)).1 (times (P.i_by symbolic S.f_s 1 0) (P.g_by symbolic S.f_s S.span 1))
      (first (times (S.x 2 0) (minus (plus (plus (S.x 2 0) (S.x 3 0)) (times S.two (S.x 1 0))) S.four)) (times (S.x 1 0) (minus (plus (plus (S.x 1 0) (S.x 3 0)) (times S.two (S.x 2 0))) S.four)) (plus (plus (S.f_s 0 1) (S.f_s 0 2)) (S.f_s 0 3)))
      (env F w v) tt (first-vertex (times (S.x 2 0) (minus (plus (plus (S.x 2 0) (S.x 3 0)) (times S.two (S.x 1 0))) S.four)) (times (S.x 1 0) (minus (plus (plus (S.x 1 0) (S.x 3 0)) (times S.two (S.x 2 0))) S.four)) (plus (plus (S.f_s 0 1) (S.f_s 0 2)) (S.f_s 0 3)) a h3 h4)
      ∙ density 1 0 a

  vertex-11 : Apart F w v → H.three F w v ≢ F.ring.zero → H.four F w v ≢ F.ring.zero → (P.states_share D omega' v' 1 1).1 ≡ P.density_share (exact F) w v 1 1
  unfolding P.j_of P.n_of
  vertex-11 a h3 h4 =
      (λ i. (D.times (P.j_by D (x'-all a i) 1 1) (P.n_by D (x'-all a i) 1)).1)
      ∙ modulo F.ring ((dual symbolic).times (P.j_by (dual symbolic) (S.f_d unit (λ k. nought)) 1 1) (P.n_by (dual symbolic) (S.f_d unit (λ k. nought)) 1)).1 (times (P.i_by symbolic S.f_s 1 1) (P.g_by symbolic S.f_s S.span 1))
      (first (minus nought (times (times S.two (S.x 1 0)) (S.x 2 0))) (minus nought (times (S.x 1 0) (S.x 1 0))) (S.x 1 0))
      (env F w v) tt (first-vertex (minus nought (times (times S.two (S.x 1 0)) (S.x 2 0))) (minus nought (times (S.x 1 0) (S.x 1 0))) (S.x 1 0) a h3 h4)
      ∙ density 1 1 a

  vertex-12 : Apart F w v → H.three F w v ≢ F.ring.zero → H.four F w v ≢ F.ring.zero → (P.states_share D omega' v' 1 2).1 ≡ P.density_share (exact F) w v 1 2
  unfolding P.j_of P.n_of
  vertex-12 a h3 h4 =
      (λ i. (D.times (P.j_by D (x'-all a i) 1 2) (P.n_by D (x'-all a i) 1)).1)
      ∙ modulo F.ring ((dual symbolic).times (P.j_by (dual symbolic) (S.f_d unit (λ k. nought)) 1 2) (P.n_by (dual symbolic) (S.f_d unit (λ k. nought)) 1)).1 (times (P.i_by symbolic S.f_s 1 2) (P.g_by symbolic S.f_s S.span 1))
      (first (minus nought (times (S.x 2 0) (S.x 2 0))) (minus nought (times (times S.two (S.x 1 0)) (S.x 2 0))) (S.x 2 0))
      (env F w v) tt (first-vertex (minus nought (times (S.x 2 0) (S.x 2 0))) (minus nought (times (times S.two (S.x 1 0)) (S.x 2 0))) (S.x 2 0) a h3 h4)
      ∙ density 1 2 a

  vertex-13 : Apart F w v → H.three F w v ≢ F.ring.zero → H.four F w v ≢ F.ring.zero → (P.states_share D omega' v' 1 3).1 ≡ P.density_share (exact F) w v 1 3
  unfolding P.j_of P.n_of
  vertex-13 a h3 h4 =
      (λ i. (D.times (P.j_by D (x'-all a i) 1 3) (P.n_by D (x'-all a i) 1)).1)
      ∙ modulo F.ring ((dual symbolic).times (P.j_by (dual symbolic) (S.f_d unit (λ k. nought)) 1 3) (P.n_by (dual symbolic) (S.f_d unit (λ k. nought)) 1)).1 (times (P.i_by symbolic S.f_s 1 3) (P.g_by symbolic S.f_s S.span 1))
      (first (minus nought (times (S.x 2 0) (S.x 3 0))) (minus nought (times (S.x 1 0) (S.x 3 0))) (S.x 3 0))
      (env F w v) tt (first-vertex (minus nought (times (S.x 2 0) (S.x 3 0))) (minus nought (times (S.x 1 0) (S.x 3 0))) (S.x 3 0) a h3 h4)
      ∙ density 1 3 a

  pub vertex-1 : (k : ℕ) → Apart F w v → H.three F w v ≢ F.ring.zero → H.four F w v ≢ F.ring.zero → (P.states_share D omega' v' 1 k).1 ≡ P.density_share (exact F) w v 1 k
  unfolding P.j_of P.n_of P.i_of P.g_of
  vertex-1 zero = vertex-10
  vertex-1 (suc zero) = vertex-11
  vertex-1 (suc (suc zero)) = vertex-12
  vertex-1 (suc (suc (suc k))) = vertex-13

  middle-vertex : (c d e f one other : Expr) → Apart F w v → H.three F w v ≢ F.ring.zero → H.four F w v ≢ F.ring.zero → P.g_of (exact F) w v 2 ≢ F.ring.zero → Hold F.ring (middle c d e f one other area_s S.y) (env F w v)
  middle-vertex c d e f one other a h3 h4 hg =
      between-holds (times S.q c) (times S.q d) (times S.q e) (times S.q f)
      (quarters (times (S.r 3 0) (plus (times one area_s) other)) (times (S.r 3 0) (plus (times one area_s) (times other (times area_s S.y)))) (given (minus nought (times (S.r 3 0) other)) (times area_s S.y) unit ∷ []))
      a (F.mul-inv (H.four F w v) h4, (F.mul-inv (H.three F w v) h3, (H.area-inverse F w v a hg, tt)))

  middle-vertex' : (c d e f one other : Expr) → Apart F w v → H.three F w v ≢ F.ring.zero → H.four F w v ≢ F.ring.zero → P.g_of (exact F) w v 2 ≢ F.ring.zero → Hold F.ring (middle c d e f one other area'_s S.y') (env F w v)
  middle-vertex' c d e f one other a h3 h4 hg =
      between-holds (times S.q c) (times S.q d) (times S.q e) (times S.q f)
      (quarters (times (S.r 3 0) (plus (times one area'_s) other)) (times (S.r 3 0) (plus (times one area'_s) (times other (times area'_s S.y')))) (given (minus nought (times (S.r 3 0) other)) (times area'_s S.y') unit ∷ []))
      a (F.mul-inv (H.four F w v) h4, (F.mul-inv (H.three F w v) h3, (H.area'-inverse F w v a hg, tt)))

  vertex-20 : Apart F w v → H.three F w v ≢ F.ring.zero → H.four F w v ≢ F.ring.zero → P.g_of (exact F) w v 2 ≢ F.ring.zero → P.n_of (exact F) w v 2 ≢ F.ring.zero → (P.states_share D omega' v' 2 0).1 ≡ P.density_share (exact F) w v 2 0
  unfolding P.j_of P.n_of P.fraction
  vertex-20 a h3 h4 hg hn =
      cancel' (D.over (P.s_by D x' 2 0) D.four) (P.n_by D x' 2) hn
      ∙ (λ i. (D.over (P.s_by D (x'-all a i) 2 0) D.four).1)
      ∙ modulo F.ring ((dual symbolic).over (P.s_by (dual symbolic) (S.f_d unit (λ k. nought)) 2 0) (dual symbolic).four).1 (times (P.i_by symbolic S.f_s 2 0) (P.g_by symbolic S.f_s S.span 2))
      (middle (times (minus (S.x 3 0) unit) (minus (S.x 3 0) unit)) (times (minus (S.x 2 1) unit) (minus (plus (times S.two (S.x 3 0)) (times S.three (S.x 2 0))) S.five)) (minus nought (times (times S.two (S.x 2 1)) (minus (S.x 3 0) unit))) (minus nought (times (S.x 3 0) (minus (plus (S.x 2 0) (S.x 3 0)) S.two))) (S.f_s 0 3) (times (S.f_s 0 2) (times (S.f_s 1 2) (S.f_s 2 0))) area_s S.y)
      (env F w v) tt (middle-vertex (times (minus (S.x 3 0) unit) (minus (S.x 3 0) unit)) (times (minus (S.x 2 1) unit) (minus (plus (times S.two (S.x 3 0)) (times S.three (S.x 2 0))) S.five)) (minus nought (times (times S.two (S.x 2 1)) (minus (S.x 3 0) unit))) (minus nought (times (S.x 3 0) (minus (plus (S.x 2 0) (S.x 3 0)) S.two))) (S.f_s 0 3) (times (S.f_s 0 2) (times (S.f_s 1 2) (S.f_s 2 0))) a h3 h4 hg)
      ∙ density 2 0 a

  vertex-21 : Apart F w v → H.three F w v ≢ F.ring.zero → H.four F w v ≢ F.ring.zero → P.g_of (exact F) w v 2 ≢ F.ring.zero → P.n_of (exact F) w v 2 ≢ F.ring.zero → (P.states_share D omega' v' 2 1).1 ≡ P.density_share (exact F) w v 2 1
  unfolding P.j_of P.n_of P.fraction
  vertex-21 a h3 h4 hg hn =
      cancel' (D.over (P.s_by D x' 2 1) D.four) (P.n_by D x' 2) hn
      ∙ (λ i. (D.over (P.s_by D (x'-all a i) 2 1) D.four).1)
      ∙ modulo F.ring ((dual symbolic).over (P.s_by (dual symbolic) (S.f_d unit (λ k. nought)) 2 1) (dual symbolic).four).1 (times (P.i_by symbolic S.f_s 2 1) (P.g_by symbolic S.f_s S.span 2))
      (middle (times (minus (S.x 3 0) unit) (minus (plus (S.x 3 1) (times S.two (S.x 2 1))) S.three)) (times (times S.three (minus (S.x 2 1) unit)) (minus (S.x 2 1) unit)) (minus nought (times (times S.three (S.x 2 1)) (minus (plus (S.x 2 1) (S.x 3 1)) S.two))) (minus nought (times (times S.two (S.x 3 0)) (minus (S.x 2 1) unit))) (S.f_s 1 2) (times (S.f_s 1 3) (times (S.f_s 1 3) (S.f_s 2 1))) area'_s S.y')
      (env F w v) tt (middle-vertex' (times (minus (S.x 3 0) unit) (minus (plus (S.x 3 1) (times S.two (S.x 2 1))) S.three)) (times (times S.three (minus (S.x 2 1) unit)) (minus (S.x 2 1) unit)) (minus nought (times (times S.three (S.x 2 1)) (minus (plus (S.x 2 1) (S.x 3 1)) S.two))) (minus nought (times (times S.two (S.x 3 0)) (minus (S.x 2 1) unit))) (S.f_s 1 2) (times (S.f_s 1 3) (times (S.f_s 1 3) (S.f_s 2 1))) a h3 h4 hg)
      ∙ density 2 1 a

  vertex-22 : Apart F w v → H.three F w v ≢ F.ring.zero → H.four F w v ≢ F.ring.zero → P.g_of (exact F) w v 2 ≢ F.ring.zero → P.n_of (exact F) w v 2 ≢ F.ring.zero → (P.states_share D omega' v' 2 2).1 ≡ P.density_share (exact F) w v 2 2
  unfolding P.j_of P.n_of P.fraction
  vertex-22 a h3 h4 hg hn =
      cancel' (D.over (P.s_by D x' 2 2) D.four) (P.n_by D x' 2) hn
      ∙ (λ i. (D.over (P.s_by D (x'-all a i) 2 2) D.four).1)
      ∙ modulo F.ring ((dual symbolic).over (P.s_by (dual symbolic) (S.f_d unit (λ k. nought)) 2 2) (dual symbolic).four).1 (times (P.i_by symbolic S.f_s 2 2) (P.g_by symbolic S.f_s S.span 2))
      (middle (minus nought (times (times S.two (S.x 2 1)) (minus (S.x 3 0) unit))) (minus nought (times (times S.three (minus (S.x 2 1) unit)) (plus (S.x 2 0) (S.x 2 1)))) (times (times S.three (S.x 2 1)) (S.x 2 1)) (times (S.x 3 0) (plus (S.x 2 0) (times S.two (S.x 2 1)))) (S.f_s 2 1) (times (S.f_s 2 0) (times (S.f_s 1 2) (S.f_s 2 0))) area_s S.y)
      (env F w v) tt (middle-vertex (minus nought (times (times S.two (S.x 2 1)) (minus (S.x 3 0) unit))) (minus nought (times (times S.three (minus (S.x 2 1) unit)) (plus (S.x 2 0) (S.x 2 1)))) (times (times S.three (S.x 2 1)) (S.x 2 1)) (times (S.x 3 0) (plus (S.x 2 0) (times S.two (S.x 2 1)))) (S.f_s 2 1) (times (S.f_s 2 0) (times (S.f_s 1 2) (S.f_s 2 0))) a h3 h4 hg)
      ∙ density 2 2 a

  vertex-23 : Apart F w v → H.three F w v ≢ F.ring.zero → H.four F w v ≢ F.ring.zero → P.g_of (exact F) w v 2 ≢ F.ring.zero → P.n_of (exact F) w v 2 ≢ F.ring.zero → (P.states_share D omega' v' 2 3).1 ≡ P.density_share (exact F) w v 2 3
  unfolding P.j_of P.n_of P.fraction
  vertex-23 a h3 h4 hg hn =
      cancel' (D.over (P.s_by D x' 2 3) D.four) (P.n_by D x' 2) hn
      ∙ (λ i. (D.over (P.s_by D (x'-all a i) 2 3) D.four).1)
      ∙ modulo F.ring ((dual symbolic).over (P.s_by (dual symbolic) (S.f_d unit (λ k. nought)) 2 3) (dual symbolic).four).1 (times (P.i_by symbolic S.f_s 2 3) (P.g_by symbolic S.f_s S.span 2))
      (middle (minus nought (times (minus (S.x 3 0) unit) (plus (S.x 3 0) (S.x 3 1)))) (minus nought (times (times S.two (S.x 3 0)) (minus (S.x 2 1) unit))) (times (S.x 2 1) (plus (times S.two (S.x 3 0)) (times S.three (S.x 3 1)))) (times (S.x 3 0) (S.x 3 0)) (S.f_s 3 0) (times (S.f_s 3 1) (times (S.f_s 1 3) (S.f_s 2 1))) area'_s S.y')
      (env F w v) tt (middle-vertex' (minus nought (times (minus (S.x 3 0) unit) (plus (S.x 3 0) (S.x 3 1)))) (minus nought (times (times S.two (S.x 3 0)) (minus (S.x 2 1) unit))) (times (S.x 2 1) (plus (times S.two (S.x 3 0)) (times S.three (S.x 3 1)))) (times (S.x 3 0) (S.x 3 0)) (S.f_s 3 0) (times (S.f_s 3 1) (times (S.f_s 1 3) (S.f_s 2 1))) a h3 h4 hg)
      ∙ density 2 3 a

  pub vertex-2 : (k : ℕ) → Apart F w v → H.three F w v ≢ F.ring.zero → H.four F w v ≢ F.ring.zero → P.g_of (exact F) w v 2 ≢ F.ring.zero → P.n_of (exact F) w v 2 ≢ F.ring.zero → (P.states_share D omega' v' 2 k).1 ≡ P.density_share (exact F) w v 2 k
  unfolding P.j_of P.n_of P.i_of P.g_of
  vertex-2 zero = vertex-20
  vertex-2 (suc zero) = vertex-21
  vertex-2 (suc (suc zero)) = vertex-22
  vertex-2 (suc (suc (suc k))) = vertex-23

  vertex-30 : Apart F w v → H.three F w v ≢ F.ring.zero → H.four F w v ≢ F.ring.zero → P.n_of (exact F) w v 3 ≢ F.ring.zero → (P.states_share D omega' v' 3 0).1 ≡ P.density_share (exact F) w v 3 0
  unfolding P.j_of P.n_of P.fraction
  vertex-30 a h3 h4 hn =
      cancel' (D.over (P.s_by D x' 3 0) D.four) (P.n_by D x' 3) hn
      ∙ (λ i. (D.over (P.s_by D (x'-all a i) 3 0) D.four).1)
      ∙ modulo F.ring ((dual symbolic).over (P.s_by (dual symbolic) (S.f_d unit (λ k. nought)) 3 0) (dual symbolic).four).1 (times (P.i_by symbolic S.f_s 3 0) (P.g_by symbolic S.f_s S.span 3))
      (last (times (S.f_s 0 3) (S.f_s 2 3)) (times (S.f_s 0 3) (S.f_s 1 3)) (S.f_s 0 3))
      (env F w v) tt (last-vertex (times (S.f_s 0 3) (S.f_s 2 3)) (times (S.f_s 0 3) (S.f_s 1 3)) (S.f_s 0 3) a h3 h4)
      ∙ density 3 0 a

  vertex-31 : Apart F w v → H.three F w v ≢ F.ring.zero → H.four F w v ≢ F.ring.zero → P.n_of (exact F) w v 3 ≢ F.ring.zero → (P.states_share D omega' v' 3 1).1 ≡ P.density_share (exact F) w v 3 1
  unfolding P.j_of P.n_of P.fraction
  vertex-31 a h3 h4 hn =
      cancel' (D.over (P.s_by D x' 3 1) D.four) (P.n_by D x' 3) hn
      ∙ (λ i. (D.over (P.s_by D (x'-all a i) 3 1) D.four).1)
      ∙ modulo F.ring ((dual symbolic).over (P.s_by (dual symbolic) (S.f_d unit (λ k. nought)) 3 1) (dual symbolic).four).1 (times (P.i_by symbolic S.f_s 3 1) (P.g_by symbolic S.f_s S.span 3))
      (last (times (times S.two (S.f_s 1 3)) (S.f_s 2 3)) (times (S.f_s 1 3) (S.f_s 1 3)) (S.f_s 1 3))
      (env F w v) tt (last-vertex (times (times S.two (S.f_s 1 3)) (S.f_s 2 3)) (times (S.f_s 1 3) (S.f_s 1 3)) (S.f_s 1 3) a h3 h4)
      ∙ density 3 1 a

  vertex-32 : Apart F w v → H.three F w v ≢ F.ring.zero → H.four F w v ≢ F.ring.zero → P.n_of (exact F) w v 3 ≢ F.ring.zero → (P.states_share D omega' v' 3 2).1 ≡ P.density_share (exact F) w v 3 2
  unfolding P.j_of P.n_of P.fraction
  vertex-32 a h3 h4 hn =
      cancel' (D.over (P.s_by D x' 3 2) D.four) (P.n_by D x' 3) hn
      ∙ (λ i. (D.over (P.s_by D (x'-all a i) 3 2) D.four).1)
      ∙ modulo F.ring ((dual symbolic).over (P.s_by (dual symbolic) (S.f_d unit (λ k. nought)) 3 2) (dual symbolic).four).1 (times (P.i_by symbolic S.f_s 3 2) (P.g_by symbolic S.f_s S.span 3))
      (last (times (S.f_s 2 3) (S.f_s 2 3)) (times (times S.two (S.f_s 1 3)) (S.f_s 2 3)) (S.f_s 2 3))
      (env F w v) tt (last-vertex (times (S.f_s 2 3) (S.f_s 2 3)) (times (times S.two (S.f_s 1 3)) (S.f_s 2 3)) (S.f_s 2 3) a h3 h4)
      ∙ density 3 2 a

  vertex-33 : Apart F w v → H.three F w v ≢ F.ring.zero → H.four F w v ≢ F.ring.zero → P.n_of (exact F) w v 3 ≢ F.ring.zero → (P.states_share D omega' v' 3 3).1 ≡ P.density_share (exact F) w v 3 3
  unfolding P.j_of P.n_of P.fraction
  vertex-33 a h3 h4 hn =
      cancel' (D.over (P.s_by D x' 3 3) D.four) (P.n_by D x' 3) hn
      ∙ (λ i. (D.over (P.s_by D (x'-all a i) 3 3) D.four).1)
      ∙ modulo F.ring ((dual symbolic).over (P.s_by (dual symbolic) (S.f_d unit (λ k. nought)) 3 3) (dual symbolic).four).1 (times (P.i_by symbolic S.f_s 3 3) (P.g_by symbolic S.f_s S.span 3))
      (last (minus nought (times (S.f_s 2 3) (minus (plus (plus (S.f_s 0 3) (S.f_s 2 3)) (times S.two (S.f_s 1 3))) S.four))) (minus nought (times (S.f_s 1 3) (minus (plus (plus (S.f_s 0 3) (S.f_s 1 3)) (times S.two (S.f_s 2 3))) S.four))) (plus (plus (S.x 3 0) (S.x 3 1)) (S.x 3 2)))
      (env F w v) tt (last-vertex (minus nought (times (S.f_s 2 3) (minus (plus (plus (S.f_s 0 3) (S.f_s 2 3)) (times S.two (S.f_s 1 3))) S.four))) (minus nought (times (S.f_s 1 3) (minus (plus (plus (S.f_s 0 3) (S.f_s 1 3)) (times S.two (S.f_s 2 3))) S.four))) (plus (plus (S.x 3 0) (S.x 3 1)) (S.x 3 2)) a h3 h4)
      ∙ density 3 3 a

  pub vertex-3 : (k : ℕ) → Apart F w v → H.three F w v ≢ F.ring.zero → H.four F w v ≢ F.ring.zero → P.n_of (exact F) w v 3 ≢ F.ring.zero → (P.states_share D omega' v' 3 k).1 ≡ P.density_share (exact F) w v 3 k
  unfolding P.j_of P.n_of P.i_of P.g_of
  vertex-3 zero = vertex-30
  vertex-3 (suc zero) = vertex-31
  vertex-3 (suc (suc zero)) = vertex-32
  vertex-3 (suc (suc (suc k))) = vertex-33
