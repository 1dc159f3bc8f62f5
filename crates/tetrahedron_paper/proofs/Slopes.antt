-- In every field: for each vertex the density I g is the rate at which the number n of states falls as the vertex's value rises. So the shares I follow from n alone.
use mathlib.Core.Path.{◌≡◌, ◌∙◌}
use mathlib.Core.Logic.{◌≢◌}
use mathlib.Core.Bool.{cond}
use lib.Dec.{eqb}
use Prim.Native.Nat.{ℕ, zero, suc, ◌<◌}
use mathlib.Core.List.{[], ◌∷◌}
use native.Mathlib.Omega.{arith}
use Rattle.ring_laws.specs.Ring.{Field}
use Rattle.ring_laws.specs.Expression.{Expr, nought, unit, plus, minus, times}
use Rattle.ring_laws.specs.Polynomial.{given}
use Rattle.ring_laws.proofs.PolynomialLaws.{modulo}
use Rattle.tetrahedron_paper.specs.Operations.{exact, dual}
use Rattle.tetrahedron_paper.specs.Paper as P
use Rattle.tetrahedron_paper.proofs.Symbolic as S
use Rattle.tetrahedron_paper.proofs.Symbolic.{symbolic}
use Rattle.tetrahedron_paper.proofs.Quotients as Q
use Rattle.tetrahedron_paper.proofs.Quotients.{Apart}
use Rattle.tetrahedron_paper.proofs.Shares as H
use Rattle.tetrahedron_paper.proofs.Shares.{area_s, env}
use Rattle.tetrahedron_paper.proofs.Derivative as D
use Rattle.tetrahedron_paper.proofs.Derivative.{from_first, to_last, between, area'_s}

-- the derivative of vertex j where vertex k moves
abbrev moves : ℕ → ℕ → Expr
moves k j = cond (eqb j k) unit nought

past : (k : ℕ) → suc (suc (suc (suc k))) < 4 → ⊥
past k l = omega arith

module _ (F : Field) (w : F.ring.C) (v : ℕ → F.ring.C) where
  open F.ring use {C, one, add, neg, mul}

  abbrev pub omega'' : C × C
  omega'' = (w, F.ring.zero)

  -- the vertices, with the derivative 1 of vertex k and 0 of the others
  abbrev pub v'' : ℕ → ℕ → C × C
  v'' k j = (v j, cond (eqb j k) one F.ring.zero)

  x''-all : (k : ℕ) → Apart F w v → (λ n m. Q.x' F w v F.ring.zero (λ j. cond (eqb j k) one F.ring.zero) n m) ≡ Q.f_e' F w v F.ring.zero (λ j. cond (eqb j k) one F.ring.zero)
  x''-all k = Q.x'-all F w v F.ring.zero (λ j. cond (eqb j k) one F.ring.zero)

  -- no number of states names the span
  abbrev span'' : ℕ → C × C
  span'' k = (H.span F w v, F.ring.zero)

  slope-10 : Apart F w v → H.three F w v ≢ F.ring.zero → (P.n_of (dual (exact F)) omega'' (v'' 0) 1).1 ≡ (exact F).minus F.ring.zero (P.density_share (exact F) w v 1 0)
  unfolding P.n_of
  slope-10 a h3 =
      (λ i. (P.n_by (dual (exact F)) (x''-all 0 a i) 1).1)
      ∙ modulo F.ring (P.n_by (dual symbolic) (S.f_d nought (moves 0)) 1).1 (minus nought (times (P.i_by symbolic S.f_s 1 0) (P.g_by symbolic S.f_s S.span 1)))
      (from_first (minus nought (times (S.x 2 0) (minus (S.x 1 0) unit))) (minus nought (times (S.x 1 0) (minus (S.x 2 0) unit))) (given (times (plus (plus (S.f_s 0 1) (S.f_s 0 2)) (S.f_s 0 3)) (times (times (S.x 1 0) (S.x 2 0)) (S.r 3 0))) (times S.three S.t) unit ∷ []))
      (env F w v) tt (D.first_holds F w v (minus nought (times (S.x 2 0) (minus (S.x 1 0) unit))) (minus nought (times (S.x 1 0) (minus (S.x 2 0) unit))) (given (times (plus (plus (S.f_s 0 1) (S.f_s 0 2)) (S.f_s 0 3)) (times (times (S.x 1 0) (S.x 2 0)) (S.r 3 0))) (times S.three S.t) unit ∷ []) (F.mul-inv (H.three F w v) h3, tt))
      ∙ (λ i. (exact F).minus F.ring.zero (D.density F w v 1 0 a i))

  slope-11 : Apart F w v → H.three F w v ≢ F.ring.zero → (P.n_of (dual (exact F)) omega'' (v'' 1) 1).1 ≡ (exact F).minus F.ring.zero (P.density_share (exact F) w v 1 1)
  unfolding P.n_of
  slope-11 a h3 =
      (λ i. (P.n_by (dual (exact F)) (x''-all 1 a i) 1).1)
      ∙ modulo F.ring (P.n_by (dual symbolic) (S.f_d nought (moves 1)) 1).1 (minus nought (times (P.i_by symbolic S.f_s 1 1) (P.g_by symbolic S.f_s S.span 1)))
      (from_first (times (S.x 1 0) (S.x 2 0)) nought (given (times (S.x 1 0) (times (times (S.x 1 0) (S.x 2 0)) (S.r 3 0))) (times S.three S.t) unit ∷ []))
      (env F w v) tt (D.first_holds F w v (times (S.x 1 0) (S.x 2 0)) nought (given (times (S.x 1 0) (times (times (S.x 1 0) (S.x 2 0)) (S.r 3 0))) (times S.three S.t) unit ∷ []) (F.mul-inv (H.three F w v) h3, tt))
      ∙ (λ i. (exact F).minus F.ring.zero (D.density F w v 1 1 a i))

  slope-12 : Apart F w v → H.three F w v ≢ F.ring.zero → (P.n_of (dual (exact F)) omega'' (v'' 2) 1).1 ≡ (exact F).minus F.ring.zero (P.density_share (exact F) w v 1 2)
  unfolding P.n_of
  slope-12 a h3 =
      (λ i. (P.n_by (dual (exact F)) (x''-all 2 a i) 1).1)
      ∙ modulo F.ring (P.n_by (dual symbolic) (S.f_d nought (moves 2)) 1).1 (minus nought (times (P.i_by symbolic S.f_s 1 2) (P.g_by symbolic S.f_s S.span 1)))
      (from_first nought (times (S.x 1 0) (S.x 2 0)) (given (times (S.x 2 0) (times (times (S.x 1 0) (S.x 2 0)) (S.r 3 0))) (times S.three S.t) unit ∷ []))
      (env F w v) tt (D.first_holds F w v nought (times (S.x 1 0) (S.x 2 0)) (given (times (S.x 2 0) (times (times (S.x 1 0) (S.x 2 0)) (S.r 3 0))) (times S.three S.t) unit ∷ []) (F.mul-inv (H.three F w v) h3, tt))
      ∙ (λ i. (exact F).minus F.ring.zero (D.density F w v 1 2 a i))

  slope-13 : Apart F w v → H.three F w v ≢ F.ring.zero → (P.n_of (dual (exact F)) omega'' (v'' 3) 1).1 ≡ (exact F).minus F.ring.zero (P.density_share (exact F) w v 1 3)
  unfolding P.n_of
  slope-13 a h3 =
      (λ i. (P.n_by (dual (exact F)) (x''-all 3 a i) 1).1)
      ∙ modulo F.ring (P.n_by (dual symbolic) (S.f_d nought (moves 3)) 1).1 (minus nought (times (P.i_by symbolic S.f_s 1 3) (P.g_by symbolic S.f_s S.span 1)))
      (from_first nought nought (given (times (S.x 3 0) (times (times (S.x 1 0) (S.x 2 0)) (S.r 3 0))) (times S.three S.t) unit ∷ []))
      (env F w v) tt (D.first_holds F w v nought nought (given (times (S.x 3 0) (times (times (S.x 1 0) (S.x 2 0)) (S.r 3 0))) (times S.three S.t) unit ∷ []) (F.mul-inv (H.three F w v) h3, tt))
      ∙ (λ i. (exact F).minus F.ring.zero (D.density F w v 1 3 a i))

  pub slope-1 : (k : ℕ) → k < 4 → Apart F w v → H.three F w v ≢ F.ring.zero → (P.n_of (dual (exact F)) omega'' (v'' k) 1).1 ≡ (exact F).minus F.ring.zero (P.density_share (exact F) w v 1 k)
  slope-1 zero l = slope-10
  slope-1 (suc zero) l = slope-11
  slope-1 (suc (suc zero)) l = slope-12
  slope-1 (suc (suc (suc zero))) l = slope-13
  slope-1 (suc (suc (suc (suc k)))) l = absurd (past k l)

  slope-20 : Apart F w v → H.three F w v ≢ F.ring.zero → P.g_of (exact F) w v 2 ≢ F.ring.zero → (P.n_of (dual (exact F)) omega'' (v'' 0) 2).1 ≡ (exact F).minus F.ring.zero (P.density_share (exact F) w v 2 0)
  unfolding P.n_of
  slope-20 a h3 hg =
      (λ i. (P.n_by (dual (exact F)) (x''-all 0 a i) 2).1)
      ∙ modulo F.ring (P.n_by (dual symbolic) (S.f_d nought (moves 0)) 2).1 (minus nought (times (P.i_by symbolic S.f_s 2 0) (P.g_by symbolic S.f_s S.span 2)))
      (between nought (minus nought (times (minus (S.x 2 0) unit) (minus (S.x 2 1) unit))) nought nought (given (times (S.r 3 0) (plus (times (S.f_s 0 3) area_s) (times (times (S.f_s 0 2) (times (S.f_s 1 2) (S.f_s 2 0))) (times area_s S.y)))) (times S.three S.t) unit ∷ given (times (S.r 3 0) (times (S.f_s 0 2) (times (S.f_s 1 2) (S.f_s 2 0)))) (times area_s S.y) unit ∷ []))
      (env F w v) tt (D.between-holds F w v nought (minus nought (times (minus (S.x 2 0) unit) (minus (S.x 2 1) unit))) nought nought (given (times (S.r 3 0) (plus (times (S.f_s 0 3) area_s) (times (times (S.f_s 0 2) (times (S.f_s 1 2) (S.f_s 2 0))) (times area_s S.y)))) (times S.three S.t) unit ∷ given (times (S.r 3 0) (times (S.f_s 0 2) (times (S.f_s 1 2) (S.f_s 2 0)))) (times area_s S.y) unit ∷ []) a (F.mul-inv (H.three F w v) h3, (H.area-inverse F w v a hg, tt)))
      ∙ (λ i. (exact F).minus F.ring.zero (D.density F w v 2 0 a i))

  slope-21 : Apart F w v → H.three F w v ≢ F.ring.zero → P.g_of (exact F) w v 2 ≢ F.ring.zero → (P.n_of (dual (exact F)) omega'' (v'' 1) 2).1 ≡ (exact F).minus F.ring.zero (P.density_share (exact F) w v 2 1)
  unfolding P.n_of
  slope-21 a h3 hg =
      (λ i. (P.n_by (dual (exact F)) (x''-all 1 a i) 2).1)
      ∙ modulo F.ring (P.n_by (dual symbolic) (S.f_d nought (moves 1)) 2).1 (minus nought (times (P.i_by symbolic S.f_s 2 1) (P.g_by symbolic S.f_s S.span 2)))
      (between (minus nought (times (minus (S.x 2 1) unit) (minus (S.x 3 0) unit))) (minus nought (times (minus (S.x 2 1) unit) (minus (S.x 2 1) unit))) (times (S.x 2 1) (minus (plus (S.x 2 1) (S.x 3 1)) S.two)) (times (S.x 3 0) (minus (S.x 2 1) unit)) (given (times (S.r 3 0) (plus (times (S.f_s 1 2) area'_s) (times (times (S.f_s 1 3) (times (S.f_s 1 3) (S.f_s 2 1))) (times area'_s S.y')))) (times S.three S.t) unit ∷ given (times (S.r 3 0) (times (S.f_s 1 3) (times (S.f_s 1 3) (S.f_s 2 1)))) (times area'_s S.y') unit ∷ []))
      (env F w v) tt (D.between-holds F w v (minus nought (times (minus (S.x 2 1) unit) (minus (S.x 3 0) unit))) (minus nought (times (minus (S.x 2 1) unit) (minus (S.x 2 1) unit))) (times (S.x 2 1) (minus (plus (S.x 2 1) (S.x 3 1)) S.two)) (times (S.x 3 0) (minus (S.x 2 1) unit)) (given (times (S.r 3 0) (plus (times (S.f_s 1 2) area'_s) (times (times (S.f_s 1 3) (times (S.f_s 1 3) (S.f_s 2 1))) (times area'_s S.y')))) (times S.three S.t) unit ∷ given (times (S.r 3 0) (times (S.f_s 1 3) (times (S.f_s 1 3) (S.f_s 2 1)))) (times area'_s S.y') unit ∷ []) a (F.mul-inv (H.three F w v) h3, (H.area'-inverse F w v a hg, tt)))
      ∙ (λ i. (exact F).minus F.ring.zero (D.density F w v 2 1 a i))

  slope-22 : Apart F w v → H.three F w v ≢ F.ring.zero → P.g_of (exact F) w v 2 ≢ F.ring.zero → (P.n_of (dual (exact F)) omega'' (v'' 2) 2).1 ≡ (exact F).minus F.ring.zero (P.density_share (exact F) w v 2 2)
  unfolding P.n_of
  slope-22 a h3 hg =
      (λ i. (P.n_by (dual (exact F)) (x''-all 2 a i) 2).1)
      ∙ modulo F.ring (P.n_by (dual symbolic) (S.f_d nought (moves 2)) 2).1 (minus nought (times (P.i_by symbolic S.f_s 2 2) (P.g_by symbolic S.f_s S.span 2)))
      (between (times (S.x 2 1) (minus (S.x 3 0) unit)) (times (minus (S.x 2 1) unit) (plus (S.x 2 0) (S.x 2 1))) (minus nought (times (S.x 2 1) (S.x 2 1))) (minus nought (times (S.x 2 1) (S.x 3 0))) (given (times (S.r 3 0) (plus (times (S.f_s 2 1) area_s) (times (times (S.f_s 2 0) (times (S.f_s 1 2) (S.f_s 2 0))) (times area_s S.y)))) (times S.three S.t) unit ∷ given (times (S.r 3 0) (times (S.f_s 2 0) (times (S.f_s 1 2) (S.f_s 2 0)))) (times area_s S.y) unit ∷ []))
      (env F w v) tt (D.between-holds F w v (times (S.x 2 1) (minus (S.x 3 0) unit)) (times (minus (S.x 2 1) unit) (plus (S.x 2 0) (S.x 2 1))) (minus nought (times (S.x 2 1) (S.x 2 1))) (minus nought (times (S.x 2 1) (S.x 3 0))) (given (times (S.r 3 0) (plus (times (S.f_s 2 1) area_s) (times (times (S.f_s 2 0) (times (S.f_s 1 2) (S.f_s 2 0))) (times area_s S.y)))) (times S.three S.t) unit ∷ given (times (S.r 3 0) (times (S.f_s 2 0) (times (S.f_s 1 2) (S.f_s 2 0)))) (times area_s S.y) unit ∷ []) a (F.mul-inv (H.three F w v) h3, (H.area-inverse F w v a hg, tt)))
      ∙ (λ i. (exact F).minus F.ring.zero (D.density F w v 2 2 a i))

  slope-23 : Apart F w v → H.three F w v ≢ F.ring.zero → P.g_of (exact F) w v 2 ≢ F.ring.zero → (P.n_of (dual (exact F)) omega'' (v'' 3) 2).1 ≡ (exact F).minus F.ring.zero (P.density_share (exact F) w v 2 3)
  unfolding P.n_of
  slope-23 a h3 hg =
      (λ i. (P.n_by (dual (exact F)) (x''-all 3 a i) 2).1)
      ∙ modulo F.ring (P.n_by (dual symbolic) (S.f_d nought (moves 3)) 2).1 (minus nought (times (P.i_by symbolic S.f_s 2 3) (P.g_by symbolic S.f_s S.span 2)))
      (between nought nought (minus nought (times (S.x 2 1) (S.x 3 1))) nought (given (times (S.r 3 0) (plus (times (S.f_s 3 0) area'_s) (times (times (S.f_s 3 1) (times (S.f_s 1 3) (S.f_s 2 1))) (times area'_s S.y')))) (times S.three S.t) unit ∷ given (times (S.r 3 0) (times (S.f_s 3 1) (times (S.f_s 1 3) (S.f_s 2 1)))) (times area'_s S.y') unit ∷ []))
      (env F w v) tt (D.between-holds F w v nought nought (minus nought (times (S.x 2 1) (S.x 3 1))) nought (given (times (S.r 3 0) (plus (times (S.f_s 3 0) area'_s) (times (times (S.f_s 3 1) (times (S.f_s 1 3) (S.f_s 2 1))) (times area'_s S.y')))) (times S.three S.t) unit ∷ given (times (S.r 3 0) (times (S.f_s 3 1) (times (S.f_s 1 3) (S.f_s 2 1)))) (times area'_s S.y') unit ∷ []) a (F.mul-inv (H.three F w v) h3, (H.area'-inverse F w v a hg, tt)))
      ∙ (λ i. (exact F).minus F.ring.zero (D.density F w v 2 3 a i))

  pub slope-2 : (k : ℕ) → k < 4 → Apart F w v → H.three F w v ≢ F.ring.zero → P.g_of (exact F) w v 2 ≢ F.ring.zero → (P.n_of (dual (exact F)) omega'' (v'' k) 2).1 ≡ (exact F).minus F.ring.zero (P.density_share (exact F) w v 2 k)
  slope-2 zero l = slope-20
  slope-2 (suc zero) l = slope-21
  slope-2 (suc (suc zero)) l = slope-22
  slope-2 (suc (suc (suc zero))) l = slope-23
  slope-2 (suc (suc (suc (suc k)))) l = absurd (past k l)

  slope-30 : Apart F w v → H.three F w v ≢ F.ring.zero → (P.n_of (dual (exact F)) omega'' (v'' 0) 3).1 ≡ (exact F).minus F.ring.zero (P.density_share (exact F) w v 3 0)
  unfolding P.n_of
  slope-30 a h3 =
      (λ i. (P.n_by (dual (exact F)) (x''-all 0 a i) 3).1)
      ∙ modulo F.ring (P.n_by (dual symbolic) (S.f_d nought (moves 0)) 3).1 (minus nought (times (P.i_by symbolic S.f_s 3 0) (P.g_by symbolic S.f_s S.span 3)))
      (to_last nought nought (given (times (S.f_s 0 3) (times (times (S.f_s 1 3) (S.f_s 2 3)) (S.r 3 0))) (times S.three S.t) unit ∷ []))
      (env F w v) tt (D.last-holds F w v nought nought (given (times (S.f_s 0 3) (times (times (S.f_s 1 3) (S.f_s 2 3)) (S.r 3 0))) (times S.three S.t) unit ∷ []) a (F.mul-inv (H.three F w v) h3, tt))
      ∙ (λ i. (exact F).minus F.ring.zero (D.density F w v 3 0 a i))

  slope-31 : Apart F w v → H.three F w v ≢ F.ring.zero → (P.n_of (dual (exact F)) omega'' (v'' 1) 3).1 ≡ (exact F).minus F.ring.zero (P.density_share (exact F) w v 3 1)
  unfolding P.n_of
  slope-31 a h3 =
      (λ i. (P.n_by (dual (exact F)) (x''-all 1 a i) 3).1)
      ∙ modulo F.ring (P.n_by (dual symbolic) (S.f_d nought (moves 1)) 3).1 (minus nought (times (P.i_by symbolic S.f_s 3 1) (P.g_by symbolic S.f_s S.span 3)))
      (to_last (minus nought (times (minus (S.x 3 1) unit) (minus (S.x 3 2) unit))) nought (given (times (S.f_s 1 3) (times (times (S.f_s 1 3) (S.f_s 2 3)) (S.r 3 0))) (times S.three S.t) unit ∷ []))
      (env F w v) tt (D.last-holds F w v (minus nought (times (minus (S.x 3 1) unit) (minus (S.x 3 2) unit))) nought (given (times (S.f_s 1 3) (times (times (S.f_s 1 3) (S.f_s 2 3)) (S.r 3 0))) (times S.three S.t) unit ∷ []) a (F.mul-inv (H.three F w v) h3, tt))
      ∙ (λ i. (exact F).minus F.ring.zero (D.density F w v 3 1 a i))

  slope-32 : Apart F w v → H.three F w v ≢ F.ring.zero → (P.n_of (dual (exact F)) omega'' (v'' 2) 3).1 ≡ (exact F).minus F.ring.zero (P.density_share (exact F) w v 3 2)
  unfolding P.n_of
  slope-32 a h3 =
      (λ i. (P.n_by (dual (exact F)) (x''-all 2 a i) 3).1)
      ∙ modulo F.ring (P.n_by (dual symbolic) (S.f_d nought (moves 2)) 3).1 (minus nought (times (P.i_by symbolic S.f_s 3 2) (P.g_by symbolic S.f_s S.span 3)))
      (to_last nought (minus nought (times (minus (S.x 3 1) unit) (minus (S.x 3 2) unit))) (given (times (S.f_s 2 3) (times (times (S.f_s 1 3) (S.f_s 2 3)) (S.r 3 0))) (times S.three S.t) unit ∷ []))
      (env F w v) tt (D.last-holds F w v nought (minus nought (times (minus (S.x 3 1) unit) (minus (S.x 3 2) unit))) (given (times (S.f_s 2 3) (times (times (S.f_s 1 3) (S.f_s 2 3)) (S.r 3 0))) (times S.three S.t) unit ∷ []) a (F.mul-inv (H.three F w v) h3, tt))
      ∙ (λ i. (exact F).minus F.ring.zero (D.density F w v 3 2 a i))

  slope-33 : Apart F w v → H.three F w v ≢ F.ring.zero → (P.n_of (dual (exact F)) omega'' (v'' 3) 3).1 ≡ (exact F).minus F.ring.zero (P.density_share (exact F) w v 3 3)
  unfolding P.n_of
  slope-33 a h3 =
      (λ i. (P.n_by (dual (exact F)) (x''-all 3 a i) 3).1)
      ∙ modulo F.ring (P.n_by (dual symbolic) (S.f_d nought (moves 3)) 3).1 (minus nought (times (P.i_by symbolic S.f_s 3 3) (P.g_by symbolic S.f_s S.span 3)))
      (to_last (times (S.x 3 1) (minus (S.x 3 2) unit)) (times (S.x 3 2) (minus (S.x 3 1) unit)) (given (times (plus (plus (S.x 3 0) (S.x 3 1)) (S.x 3 2)) (times (times (S.f_s 1 3) (S.f_s 2 3)) (S.r 3 0))) (times S.three S.t) unit ∷ []))
      (env F w v) tt (D.last-holds F w v (times (S.x 3 1) (minus (S.x 3 2) unit)) (times (S.x 3 2) (minus (S.x 3 1) unit)) (given (times (plus (plus (S.x 3 0) (S.x 3 1)) (S.x 3 2)) (times (times (S.f_s 1 3) (S.f_s 2 3)) (S.r 3 0))) (times S.three S.t) unit ∷ []) a (F.mul-inv (H.three F w v) h3, tt))
      ∙ (λ i. (exact F).minus F.ring.zero (D.density F w v 3 3 a i))

  pub slope-3 : (k : ℕ) → k < 4 → Apart F w v → H.three F w v ≢ F.ring.zero → (P.n_of (dual (exact F)) omega'' (v'' k) 3).1 ≡ (exact F).minus F.ring.zero (P.density_share (exact F) w v 3 k)
  slope-3 zero l = slope-30
  slope-3 (suc zero) l = slope-31
  slope-3 (suc (suc zero)) l = slope-32
  slope-3 (suc (suc (suc zero))) l = slope-33
  slope-3 (suc (suc (suc (suc k)))) l = absurd (past k l)
