-- In every field: at each vertex the formulas of the two neighbouring ranges agree, so that n, g and each vertex's states J n are continuous; n is 0 at the first vertex and 1 at the last.
use mathlib.Core.Path.{◌≡◌, sym, ◌∙◌}
use mathlib.Core.Logic.{◌≢◌}
use Prim.Native.Nat.{ℕ, zero, suc}
use mathlib.Core.List.{[], ◌∷◌}
use native.Mathlib.Omega.{arith}
use Rattle.ring_laws.specs.Ring.{Field}
use Rattle.ring_laws.specs.Expression.{var, nought, unit, plus, minus, times}
use Rattle.ring_laws.specs.Polynomial.{given}
use Rattle.ring_laws.proofs.PolynomialLaws.{ring, modulo}
use Rattle.tetrahedron_paper.specs.Operations.{exact}
use Rattle.tetrahedron_paper.specs.Paper as P
use Rattle.tetrahedron_paper.proofs.Symbolic as S
use Rattle.tetrahedron_paper.proofs.Symbolic.{symbolic}
use Rattle.tetrahedron_paper.proofs.Quotients as Q
use Rattle.tetrahedron_paper.proofs.Quotients.{Apart}
use Rattle.tetrahedron_paper.proofs.Shares as H
use Rattle.tetrahedron_paper.proofs.Shares.{env}

module _ (F : Field) (v : ℕ → F.ring.C) where
  open F.ring use {C, one, add, neg, mul}

  -- the quotient is 0 at its second vertex
  pub x-zero : (n m : ℕ) → Q.x F (v m) v n m ≡ F.ring.zero
  unfolding P.fraction
  x-zero n m = ring F.ring (times (minus (var 0) (var 0)) (var 1)) nought (v m ∷ Q.r F (v m) v n m ∷ []) tt

  -- and 1 at its first
  pub x-one : (n m : ℕ) → v n ≢ v m → Q.x F (v n) v n m ≡ one
  unfolding P.fraction
  x-one n m h = Q.r-inverse F (v n) v n m h

  pub at-0 : Apart F (v 0) v → (Q.x F (v 0) v 1 0 ≡ F.ring.zero) × ((Q.x F (v 0) v 2 0 ≡ F.ring.zero) × ((Q.x F (v 0) v 3 0 ≡ F.ring.zero) × Unit {0}))
  at-0 a = (x-zero 1 0, (x-zero 2 0, (x-zero 3 0, tt)))

  pub at_1 : Apart F (v 1) v → (Q.x F (v 1) v 1 0 ≡ one) × ((Q.x F (v 1) v 2 1 ≡ F.ring.zero) × ((Q.x F (v 1) v 3 1 ≡ F.ring.zero) × Unit {0}))
  at_1 a = (x-one 1 0 (a 1 0 (omega arith) (omega arith)), (x-zero 2 1, (x-zero 3 1, tt)))

  pub at-2 : Apart F (v 2) v → (Q.x F (v 2) v 2 0 ≡ one) × ((Q.x F (v 2) v 2 1 ≡ one) × ((Q.x F (v 2) v 3 2 ≡ F.ring.zero) × Unit {0}))
  at-2 a = (x-one 2 0 (a 2 0 (omega arith) (omega arith)), (x-one 2 1 (a 2 1 (omega arith) (omega arith)), (x-zero 3 2, tt)))

  pub at-3 : Apart F (v 3) v → (Q.x F (v 3) v 3 0 ≡ one) × ((Q.x F (v 3) v 3 1 ≡ one) × ((Q.x F (v 3) v 3 2 ≡ one) × Unit {0}))
  at-3 a = (x-one 3 0 (a 3 0 (omega arith) (omega arith)), (x-one 3 1 (a 3 1 (omega arith) (omega arith)), (x-one 3 2 (a 3 2 (omega arith) (omega arith)), tt)))

  -- at vertex 0
  pub number-at-0 : Apart F (v 0) v → P.n_of (exact F) (v 0) v 0 ≡ P.n_of (exact F) (v 0) v 1
  unfolding P.n_of
  number-at-0 a =
      (λ i. P.n_by (exact F) (Q.x-all F (v 0) v a i) 0)
      ∙ modulo F.ring (P.n_by symbolic S.f_s 0) (P.n_by symbolic S.f_s 1)
      (given (minus nought (times (S.x 2 0) (S.x 3 0))) (S.x 1 0) nought ∷ given nought (S.x 2 0) nought ∷ given nought (S.x 3 0) nought ∷ [])
      (env F (v 0) v) tt (at-0 a)
      ∙ (λ i. P.n_by (exact F) (sym (Q.x-all F (v 0) v a) i) 1)

  -- at vertex 0
  pub density-at-0 : Apart F (v 0) v → P.g_of (exact F) (v 0) v 0 ≡ P.g_of (exact F) (v 0) v 1
  unfolding P.g_of
  density-at-0 a =
      (λ i. P.g_by (exact F) (Q.x-all F (v 0) v a i) (H.span F (v 0) v) 0)
      ∙ modulo F.ring (P.g_by symbolic S.f_s S.span 0) (P.g_by symbolic S.f_s S.span 1)
      (given (minus nought (times (times S.three (S.r 3 0)) (S.x 2 0))) (S.x 1 0) nought ∷ given nought (S.x 2 0) nought ∷ given nought (S.x 3 0) nought ∷ [])
      (env F (v 0) v) tt (at-0 a)
      ∙ (λ i. P.g_by (exact F) (sym (Q.x-all F (v 0) v a) i) (H.span F (v 0) v) 1)

  -- at vertex 1
  pub number-at-1 : Apart F (v 1) v → P.n_of (exact F) (v 1) v 1 ≡ P.n_of (exact F) (v 1) v 2
  unfolding P.n_of
  number-at-1 a =
      (λ i. P.n_by (exact F) (Q.x-all F (v 1) v a i) 1)
      ∙ modulo F.ring (P.n_by symbolic S.f_s 1) (P.n_by symbolic S.f_s 2)
      (given (times (S.x 2 0) (S.x 3 0)) (S.x 1 0) unit ∷ given (minus (minus (plus (times (S.x 2 0) (S.x 3 0)) (times (S.x 3 0) (S.x 3 1))) (S.x 3 0)) (S.x 3 1)) (S.x 2 1) nought ∷ given nought (S.x 3 1) nought ∷ [])
      (env F (v 1) v) tt (at_1 a)
      ∙ (λ i. P.n_by (exact F) (sym (Q.x-all F (v 1) v a) i) 2)

  -- at vertex 1
  pub density-at-1 : Apart F (v 1) v → P.g_of (exact F) (v 1) v 1 ≡ P.g_of (exact F) (v 1) v 2
  unfolding P.g_of
  density-at-1 a =
      (λ i. P.g_by (exact F) (Q.x-all F (v 1) v a i) (H.span F (v 1) v) 1)
      ∙ modulo F.ring (P.g_by symbolic S.f_s S.span 1) (P.g_by symbolic S.f_s S.span 2)
      (given (times (times S.three (S.r 3 0)) (S.x 2 0)) (S.x 1 0) unit ∷ given (times (times S.three (S.r 3 0)) (minus (plus (S.x 2 0) (S.x 3 1)) unit)) (S.x 2 1) nought ∷ given nought (S.x 3 1) nought ∷ [])
      (env F (v 1) v) tt (at_1 a)
      ∙ (λ i. P.g_by (exact F) (sym (Q.x-all F (v 1) v a) i) (H.span F (v 1) v) 2)

  -- at vertex 2
  pub number-at-2 : Apart F (v 2) v → P.n_of (exact F) (v 2) v 2 ≡ P.n_of (exact F) (v 2) v 3
  unfolding P.n_of
  number-at-2 a =
      (λ i. P.n_by (exact F) (Q.x-all F (v 2) v a i) 2)
      ∙ modulo F.ring (P.n_by symbolic S.f_s 2) (P.n_by symbolic S.f_s 3)
      (given (minus nought (times (S.x 3 0) (minus (S.x 2 1) unit))) (S.x 2 0) unit ∷ given (minus nought (times (S.x 3 1) (minus (S.x 3 0) unit))) (S.x 2 1) unit ∷ given (minus nought (times (minus (S.x 3 0) unit) (minus (S.x 3 1) unit))) (S.x 3 2) nought ∷ [])
      (env F (v 2) v) tt (at-2 a)
      ∙ (λ i. P.n_by (exact F) (sym (Q.x-all F (v 2) v a) i) 3)

  -- at vertex 2
  pub density-at-2 : Apart F (v 2) v → P.g_of (exact F) (v 2) v 2 ≡ P.g_of (exact F) (v 2) v 3
  unfolding P.g_of
  density-at-2 a =
      (λ i. P.g_by (exact F) (Q.x-all F (v 2) v a i) (H.span F (v 2) v) 2)
      ∙ modulo F.ring (P.g_by symbolic S.f_s S.span 2) (P.g_by symbolic S.f_s S.span 3)
      (given (minus nought (times (times S.three (S.r 3 0)) (minus (S.x 2 1) unit))) (S.x 2 0) unit ∷ given (minus nought (times (times S.three (S.r 3 0)) (S.x 3 1))) (S.x 2 1) unit ∷ given (minus nought (times (times S.three (S.r 3 0)) (minus (S.x 3 1) unit))) (S.x 3 2) nought ∷ [])
      (env F (v 2) v) tt (at-2 a)
      ∙ (λ i. P.g_by (exact F) (sym (Q.x-all F (v 2) v a) i) (H.span F (v 2) v) 3)

  -- at vertex 3
  pub number-at-3 : Apart F (v 3) v → P.n_of (exact F) (v 3) v 3 ≡ P.n_of (exact F) (v 3) v 4
  unfolding P.n_of
  number-at-3 a =
      (λ i. P.n_by (exact F) (Q.x-all F (v 3) v a i) 3)
      ∙ modulo F.ring (P.n_by symbolic S.f_s 3) (P.n_by symbolic S.f_s 4)
      (given (times (minus (S.x 3 1) unit) (minus (S.x 3 2) unit)) (S.x 3 0) unit ∷ given nought (S.x 3 1) unit ∷ given nought (S.x 3 2) unit ∷ [])
      (env F (v 3) v) tt (at-3 a)
      ∙ (λ i. P.n_by (exact F) (sym (Q.x-all F (v 3) v a) i) 4)

  -- at vertex 3
  pub density-at-3 : Apart F (v 3) v → P.g_of (exact F) (v 3) v 3 ≡ P.g_of (exact F) (v 3) v 4
  unfolding P.g_of
  density-at-3 a =
      (λ i. P.g_by (exact F) (Q.x-all F (v 3) v a i) (H.span F (v 3) v) 3)
      ∙ modulo F.ring (P.g_by symbolic S.f_s S.span 3) (P.g_by symbolic S.f_s S.span 4)
      (given nought (S.x 3 0) unit ∷ given (times (times S.three (S.r 3 0)) (minus (S.x 3 2) unit)) (S.x 3 1) unit ∷ given nought (S.x 3 2) unit ∷ [])
      (env F (v 3) v) tt (at-3 a)
      ∙ (λ i. P.g_by (exact F) (sym (Q.x-all F (v 3) v a) i) (H.span F (v 3) v) 4)

  states-at-00 : Apart F (v 0) v → P.states_share (exact F) (v 0) v 0 0 ≡ P.states_share (exact F) (v 0) v 1 0
  unfolding P.j_of P.n_of
  states-at-00 a =
      (λ i. mul (P.j_by (exact F) (Q.x-all F (v 0) v a i) 0 0) (P.n_by (exact F) (Q.x-all F (v 0) v a i) 0))
      ∙ modulo F.ring (times (P.j_by symbolic S.f_s 0 0) (P.n_by symbolic S.f_s 0)) (times (P.j_by symbolic S.f_s 1 0) (P.n_by symbolic S.f_s 1))
      (given (times (times (times S.q (S.x 2 0)) (S.x 3 0)) (minus (plus (plus (S.x 1 0) (S.x 2 0)) (S.x 3 0)) S.four)) (S.x 1 0) nought ∷ given nought (S.x 2 0) nought ∷ given nought (S.x 3 0) nought ∷ [])
      (env F (v 0) v) tt (at-0 a)
      ∙ (λ i. mul (P.j_by (exact F) (sym (Q.x-all F (v 0) v a) i) 1 0) (P.n_by (exact F) (sym (Q.x-all F (v 0) v a) i) 1))

  states-at-01 : Apart F (v 0) v → P.states_share (exact F) (v 0) v 0 1 ≡ P.states_share (exact F) (v 0) v 1 1
  unfolding P.j_of P.n_of
  states-at-01 a =
      (λ i. mul (P.j_by (exact F) (Q.x-all F (v 0) v a i) 0 1) (P.n_by (exact F) (Q.x-all F (v 0) v a i) 0))
      ∙ modulo F.ring (times (P.j_by symbolic S.f_s 0 1) (P.n_by symbolic S.f_s 0)) (times (P.j_by symbolic S.f_s 1 1) (P.n_by symbolic S.f_s 1))
      (given (minus nought (times (times (times S.q (S.x 1 0)) (S.x 2 0)) (S.x 3 0))) (S.x 1 0) nought ∷ given nought (S.x 2 0) nought ∷ given nought (S.x 3 0) nought ∷ [])
      (env F (v 0) v) tt (at-0 a)
      ∙ (λ i. mul (P.j_by (exact F) (sym (Q.x-all F (v 0) v a) i) 1 1) (P.n_by (exact F) (sym (Q.x-all F (v 0) v a) i) 1))

  states-at-02 : Apart F (v 0) v → P.states_share (exact F) (v 0) v 0 2 ≡ P.states_share (exact F) (v 0) v 1 2
  unfolding P.j_of P.n_of
  states-at-02 a =
      (λ i. mul (P.j_by (exact F) (Q.x-all F (v 0) v a i) 0 2) (P.n_by (exact F) (Q.x-all F (v 0) v a i) 0))
      ∙ modulo F.ring (times (P.j_by symbolic S.f_s 0 2) (P.n_by symbolic S.f_s 0)) (times (P.j_by symbolic S.f_s 1 2) (P.n_by symbolic S.f_s 1))
      (given (minus nought (times (times (times S.q (S.x 3 0)) (S.x 2 0)) (S.x 2 0))) (S.x 1 0) nought ∷ given nought (S.x 2 0) nought ∷ given nought (S.x 3 0) nought ∷ [])
      (env F (v 0) v) tt (at-0 a)
      ∙ (λ i. mul (P.j_by (exact F) (sym (Q.x-all F (v 0) v a) i) 1 2) (P.n_by (exact F) (sym (Q.x-all F (v 0) v a) i) 1))

  states-at-03 : Apart F (v 0) v → P.states_share (exact F) (v 0) v 0 3 ≡ P.states_share (exact F) (v 0) v 1 3
  unfolding P.j_of P.n_of
  states-at-03 a =
      (λ i. mul (P.j_by (exact F) (Q.x-all F (v 0) v a i) 0 3) (P.n_by (exact F) (Q.x-all F (v 0) v a i) 0))
      ∙ modulo F.ring (times (P.j_by symbolic S.f_s 0 3) (P.n_by symbolic S.f_s 0)) (times (P.j_by symbolic S.f_s 1 3) (P.n_by symbolic S.f_s 1))
      (given (minus nought (times (times (times S.q (S.x 2 0)) (S.x 3 0)) (S.x 3 0))) (S.x 1 0) nought ∷ given nought (S.x 2 0) nought ∷ given nought (S.x 3 0) nought ∷ [])
      (env F (v 0) v) tt (at-0 a)
      ∙ (λ i. mul (P.j_by (exact F) (sym (Q.x-all F (v 0) v a) i) 1 3) (P.n_by (exact F) (sym (Q.x-all F (v 0) v a) i) 1))

  -- the states of each vertex, at vertex 0
  pub states-at-0 : (k : ℕ) → Apart F (v 0) v → P.states_share (exact F) (v 0) v 0 k ≡ P.states_share (exact F) (v 0) v 1 k
  unfolding P.j_of P.n_of
  states-at-0 zero = states-at-00
  states-at-0 (suc zero) = states-at-01
  states-at-0 (suc (suc zero)) = states-at-02
  states-at-0 (suc (suc (suc k))) = states-at-03

  states-at-10 : Apart F (v 1) v → P.n_of (exact F) (v 1) v 2 ≢ F.ring.zero → P.states_share (exact F) (v 1) v 1 0 ≡ P.states_share (exact F) (v 1) v 2 0
  unfolding P.j_of P.n_of
  states-at-10 a h2 =
      (λ i. mul (P.j_by (exact F) (Q.x-all F (v 1) v a i) 1 0) (P.n_by (exact F) (Q.x-all F (v 1) v a i) 1))
      ∙ modulo F.ring (times (P.j_by symbolic S.f_s 1 0) (P.n_by symbolic S.f_s 1)) (times (P.s_by symbolic S.f_s 2 0) S.q)
      (given (minus nought (times (times (times S.q (S.x 2 0)) (S.x 3 0)) (minus (plus (plus (S.x 1 0) (S.x 2 0)) (S.x 3 0)) S.three))) (S.x 1 0) unit ∷ given (minus nought (times S.q (minus (minus (minus (plus (plus (plus (plus (S.x 3 1) (times S.two (S.x 3 0))) (times (times (S.x 2 0) (S.x 3 0)) (S.x 3 0))) (times (times (S.x 3 0) (S.x 2 0)) (S.x 2 0))) (times (times (S.x 3 1) (S.x 3 0)) (S.x 3 0))) (times (S.x 3 0) (S.x 3 0))) (times (times S.three (S.x 2 0)) (S.x 3 0))) (times (times S.two (S.x 3 0)) (S.x 3 1))))) (S.x 2 1) nought ∷ given nought (S.x 3 1) nought ∷ [])
      (env F (v 1) v) tt (at_1 a)
      ∙ (λ i. mul (P.s_by (exact F) (sym (Q.x-all F (v 1) v a) i) 2 0) (F.inv (H.four F (v 1) v)))
      ∙ sym (H.states-2 F (v 1) v 0 h2)

  states-at-11 : Apart F (v 1) v → P.n_of (exact F) (v 1) v 2 ≢ F.ring.zero → P.states_share (exact F) (v 1) v 1 1 ≡ P.states_share (exact F) (v 1) v 2 1
  unfolding P.j_of P.n_of
  states-at-11 a h2 =
      (λ i. mul (P.j_by (exact F) (Q.x-all F (v 1) v a i) 1 1) (P.n_by (exact F) (Q.x-all F (v 1) v a i) 1))
      ∙ modulo F.ring (times (P.j_by symbolic S.f_s 1 1) (P.n_by symbolic S.f_s 1)) (times (P.s_by symbolic S.f_s 2 1) S.q)
      (given (times (times (times S.q (S.x 2 0)) (S.x 3 0)) (plus unit (S.x 1 0))) (S.x 1 0) unit ∷ given (minus nought (times S.q (minus (minus (minus (minus (minus (plus (plus (plus (plus (times S.two (S.x 3 0)) (times S.three (S.x 3 1))) (times (times (S.x 3 0) (S.x 3 1)) (S.x 3 1))) (times (times (S.x 2 0) (S.x 2 1)) (S.x 3 0))) (times (times (S.x 2 1) (S.x 3 0)) (S.x 3 1))) (times (S.x 3 1) (S.x 3 1))) (times (S.x 2 1) (S.x 3 0))) (times (S.x 2 1) (S.x 3 1))) (times (times S.three (S.x 3 0)) (S.x 3 1))) (times (times S.two (S.x 2 0)) (S.x 3 0))))) (S.x 2 1) nought ∷ given nought (S.x 3 1) nought ∷ [])
      (env F (v 1) v) tt (at_1 a)
      ∙ (λ i. mul (P.s_by (exact F) (sym (Q.x-all F (v 1) v a) i) 2 1) (F.inv (H.four F (v 1) v)))
      ∙ sym (H.states-2 F (v 1) v 1 h2)

  states-at-12 : Apart F (v 1) v → P.n_of (exact F) (v 1) v 2 ≢ F.ring.zero → P.states_share (exact F) (v 1) v 1 2 ≡ P.states_share (exact F) (v 1) v 2 2
  unfolding P.j_of P.n_of
  states-at-12 a h2 =
      (λ i. mul (P.j_by (exact F) (Q.x-all F (v 1) v a i) 1 2) (P.n_by (exact F) (Q.x-all F (v 1) v a i) 1))
      ∙ modulo F.ring (times (P.j_by symbolic S.f_s 1 2) (P.n_by symbolic S.f_s 1)) (times (P.s_by symbolic S.f_s 2 2) S.q)
      (given (times (times (times S.q (S.x 3 0)) (S.x 2 0)) (S.x 2 0)) (S.x 1 0) unit ∷ given (times S.q (minus (minus (minus (plus (plus (times (times (S.x 3 0) (S.x 2 0)) (S.x 2 0)) (times (times (S.x 2 0) (S.x 2 1)) (S.x 3 0))) (times (times (S.x 2 1) (S.x 3 0)) (S.x 3 1))) (times (S.x 2 0) (S.x 3 0))) (times (S.x 2 1) (S.x 3 0))) (times (S.x 2 1) (S.x 3 1)))) (S.x 2 1) nought ∷ given nought (S.x 3 1) nought ∷ [])
      (env F (v 1) v) tt (at_1 a)
      ∙ (λ i. mul (P.s_by (exact F) (sym (Q.x-all F (v 1) v a) i) 2 2) (F.inv (H.four F (v 1) v)))
      ∙ sym (H.states-2 F (v 1) v 2 h2)

  states-at-13 : Apart F (v 1) v → P.n_of (exact F) (v 1) v 2 ≢ F.ring.zero → P.states_share (exact F) (v 1) v 1 3 ≡ P.states_share (exact F) (v 1) v 2 3
  unfolding P.j_of P.n_of
  states-at-13 a h2 =
      (λ i. mul (P.j_by (exact F) (Q.x-all F (v 1) v a i) 1 3) (P.n_by (exact F) (Q.x-all F (v 1) v a i) 1))
      ∙ modulo F.ring (times (P.j_by symbolic S.f_s 1 3) (P.n_by symbolic S.f_s 1)) (times (P.s_by symbolic S.f_s 2 3) S.q)
      (given (times (times (times S.q (S.x 2 0)) (S.x 3 0)) (S.x 3 0)) (S.x 1 0) unit ∷ given (times S.q (minus (minus (minus (plus (plus (times (times (S.x 2 0) (S.x 3 0)) (S.x 3 0)) (times (times (S.x 3 0) (S.x 3 1)) (S.x 3 1))) (times (times (S.x 3 1) (S.x 3 0)) (S.x 3 0))) (times (S.x 3 0) (S.x 3 0))) (times (S.x 3 1) (S.x 3 1))) (times (S.x 3 0) (S.x 3 1)))) (S.x 2 1) nought ∷ given nought (S.x 3 1) nought ∷ [])
      (env F (v 1) v) tt (at_1 a)
      ∙ (λ i. mul (P.s_by (exact F) (sym (Q.x-all F (v 1) v a) i) 2 3) (F.inv (H.four F (v 1) v)))
      ∙ sym (H.states-2 F (v 1) v 3 h2)

  -- the states of each vertex, at vertex 1
  pub states-at-1 : (k : ℕ) → Apart F (v 1) v → P.n_of (exact F) (v 1) v 2 ≢ F.ring.zero → P.states_share (exact F) (v 1) v 1 k ≡ P.states_share (exact F) (v 1) v 2 k
  unfolding P.j_of P.n_of
  states-at-1 zero = states-at-10
  states-at-1 (suc zero) = states-at-11
  states-at-1 (suc (suc zero)) = states-at-12
  states-at-1 (suc (suc (suc k))) = states-at-13

  states-at-20 : Apart F (v 2) v → P.n_of (exact F) (v 2) v 2 ≢ F.ring.zero → P.n_of (exact F) (v 2) v 3 ≢ F.ring.zero → P.states_share (exact F) (v 2) v 2 0 ≡ P.states_share (exact F) (v 2) v 3 0
  unfolding P.j_of P.n_of
  states-at-20 a h2 h3 =
      H.states-2 F (v 2) v 0 h2
      ∙ (λ i. mul (P.s_by (exact F) (Q.x-all F (v 2) v a i) 2 0) (F.inv (H.four F (v 2) v)))
      ∙ modulo F.ring (times (P.s_by symbolic S.f_s 2 0) S.q) (times (P.s_by symbolic S.f_s 3 0) S.q)
      (given (times (times (times S.q (S.x 3 0)) (minus (S.x 2 1) unit)) (minus (plus (S.x 2 0) (S.x 3 0)) S.two)) (S.x 2 0) unit ∷ given (times (times (times S.q (S.x 3 1)) (minus (S.x 3 0) unit)) (minus (S.x 3 0) unit)) (S.x 2 1) unit ∷ given (times (times (times S.q (minus (S.x 3 0) unit)) (minus (S.x 3 0) unit)) (minus (S.x 3 1) unit)) (S.x 3 2) nought ∷ [])
      (env F (v 2) v) tt (at-2 a)
      ∙ (λ i. mul (P.s_by (exact F) (sym (Q.x-all F (v 2) v a) i) 3 0) (F.inv (H.four F (v 2) v)))
      ∙ sym (H.states-3 F (v 2) v 0 h3)

  states-at-21 : Apart F (v 2) v → P.n_of (exact F) (v 2) v 2 ≢ F.ring.zero → P.n_of (exact F) (v 2) v 3 ≢ F.ring.zero → P.states_share (exact F) (v 2) v 2 1 ≡ P.states_share (exact F) (v 2) v 3 1
  unfolding P.j_of P.n_of
  states-at-21 a h2 h3 =
      H.states-2 F (v 2) v 1 h2
      ∙ (λ i. mul (P.s_by (exact F) (Q.x-all F (v 2) v a i) 2 1) (F.inv (H.four F (v 2) v)))
      ∙ modulo F.ring (times (P.s_by symbolic S.f_s 2 1) S.q) (times (P.s_by symbolic S.f_s 3 1) S.q)
      (given (times (times (times S.q (S.x 3 0)) (minus (S.x 2 1) unit)) (minus (S.x 2 1) unit)) (S.x 2 0) unit ∷ given (times (times (times S.q (S.x 3 1)) (minus (S.x 3 0) unit)) (minus (plus (S.x 2 1) (S.x 3 1)) S.two)) (S.x 2 1) unit ∷ given (times (times (times S.q (minus (S.x 3 1) unit)) (minus (S.x 3 1) unit)) (minus (S.x 3 0) unit)) (S.x 3 2) nought ∷ [])
      (env F (v 2) v) tt (at-2 a)
      ∙ (λ i. mul (P.s_by (exact F) (sym (Q.x-all F (v 2) v a) i) 3 1) (F.inv (H.four F (v 2) v)))
      ∙ sym (H.states-3 F (v 2) v 1 h3)

  states-at-22 : Apart F (v 2) v → P.n_of (exact F) (v 2) v 2 ≢ F.ring.zero → P.n_of (exact F) (v 2) v 3 ≢ F.ring.zero → P.states_share (exact F) (v 2) v 2 2 ≡ P.states_share (exact F) (v 2) v 3 2
  unfolding P.j_of P.n_of
  states-at-22 a h2 h3 =
      H.states-2 F (v 2) v 2 h2
      ∙ (λ i. mul (P.s_by (exact F) (Q.x-all F (v 2) v a i) 2 2) (F.inv (H.four F (v 2) v)))
      ∙ modulo F.ring (times (P.s_by symbolic S.f_s 2 2) S.q) (times (P.s_by symbolic S.f_s 3 2) S.q)
      (given (minus nought (times (times (times S.q (S.x 3 0)) (minus (S.x 2 1) unit)) (plus (plus unit (S.x 2 0)) (S.x 2 1)))) (S.x 2 0) unit ∷ given (minus nought (times (times (times S.q (S.x 3 1)) (plus unit (S.x 2 1))) (minus (S.x 3 0) unit))) (S.x 2 1) unit ∷ given (times (times (times S.q (minus (S.x 3 0) unit)) (minus (S.x 3 1) unit)) (minus (S.x 3 2) S.two)) (S.x 3 2) nought ∷ [])
      (env F (v 2) v) tt (at-2 a)
      ∙ (λ i. mul (P.s_by (exact F) (sym (Q.x-all F (v 2) v a) i) 3 2) (F.inv (H.four F (v 2) v)))
      ∙ sym (H.states-3 F (v 2) v 2 h3)

  states-at-23 : Apart F (v 2) v → P.n_of (exact F) (v 2) v 2 ≢ F.ring.zero → P.n_of (exact F) (v 2) v 3 ≢ F.ring.zero → P.states_share (exact F) (v 2) v 2 3 ≡ P.states_share (exact F) (v 2) v 3 3
  unfolding P.j_of P.n_of
  states-at-23 a h2 h3 =
      H.states-2 F (v 2) v 3 h2
      ∙ (λ i. mul (P.s_by (exact F) (Q.x-all F (v 2) v a i) 2 3) (F.inv (H.four F (v 2) v)))
      ∙ modulo F.ring (times (P.s_by symbolic S.f_s 2 3) S.q) (times (P.s_by symbolic S.f_s 3 3) S.q)
      (given (minus nought (times (times (times S.q (S.x 3 0)) (S.x 3 0)) (minus (S.x 2 1) unit))) (S.x 2 0) unit ∷ given (minus nought (times (times (times S.q (S.x 3 1)) (minus (S.x 3 0) unit)) (plus (S.x 3 0) (S.x 3 1)))) (S.x 2 1) unit ∷ given (minus nought (times (times (times S.q (minus (S.x 3 0) unit)) (minus (S.x 3 1) unit)) (plus (plus (S.x 3 0) (S.x 3 1)) (S.x 3 2)))) (S.x 3 2) nought ∷ [])
      (env F (v 2) v) tt (at-2 a)
      ∙ (λ i. mul (P.s_by (exact F) (sym (Q.x-all F (v 2) v a) i) 3 3) (F.inv (H.four F (v 2) v)))
      ∙ sym (H.states-3 F (v 2) v 3 h3)

  -- the states of each vertex, at vertex 2
  pub states-at-2 : (k : ℕ) → Apart F (v 2) v → P.n_of (exact F) (v 2) v 2 ≢ F.ring.zero → P.n_of (exact F) (v 2) v 3 ≢ F.ring.zero → P.states_share (exact F) (v 2) v 2 k ≡ P.states_share (exact F) (v 2) v 3 k
  unfolding P.j_of P.n_of
  states-at-2 zero = states-at-20
  states-at-2 (suc zero) = states-at-21
  states-at-2 (suc (suc zero)) = states-at-22
  states-at-2 (suc (suc (suc k))) = states-at-23

  states-at-30 : Apart F (v 3) v → P.n_of (exact F) (v 3) v 3 ≢ F.ring.zero → P.states_share (exact F) (v 3) v 3 0 ≡ P.states_share (exact F) (v 3) v 4 0
  unfolding P.j_of P.n_of
  states-at-30 a h3 =
      H.states-3 F (v 3) v 0 h3
      ∙ (λ i. mul (P.s_by (exact F) (Q.x-all F (v 3) v a i) 3 0) (F.inv (H.four F (v 3) v)))
      ∙ modulo F.ring (times (P.s_by symbolic S.f_s 3 0) S.q) (times (P.j_by symbolic S.f_s 4 0) (P.n_by symbolic S.f_s 4))
      (given (minus nought (times (times (times S.q (minus (S.x 3 0) unit)) (minus (S.x 3 1) unit)) (minus (S.x 3 2) unit))) (S.x 3 0) unit ∷ given nought (S.x 3 1) unit ∷ given nought (S.x 3 2) unit ∷ [])
      (env F (v 3) v) tt (at-3 a)
      ∙ (λ i. mul (P.j_by (exact F) (sym (Q.x-all F (v 3) v a) i) 4 0) (P.n_by (exact F) (sym (Q.x-all F (v 3) v a) i) 4))

  states-at-31 : Apart F (v 3) v → P.n_of (exact F) (v 3) v 3 ≢ F.ring.zero → P.states_share (exact F) (v 3) v 3 1 ≡ P.states_share (exact F) (v 3) v 4 1
  unfolding P.j_of P.n_of
  states-at-31 a h3 =
      H.states-3 F (v 3) v 1 h3
      ∙ (λ i. mul (P.s_by (exact F) (Q.x-all F (v 3) v a i) 3 1) (F.inv (H.four F (v 3) v)))
      ∙ modulo F.ring (times (P.s_by symbolic S.f_s 3 1) S.q) (times (P.j_by symbolic S.f_s 4 1) (P.n_by symbolic S.f_s 4))
      (given (minus nought (times (times (times S.q (minus (S.x 3 1) unit)) (minus (S.x 3 1) unit)) (minus (S.x 3 2) unit))) (S.x 3 0) unit ∷ given nought (S.x 3 1) unit ∷ given nought (S.x 3 2) unit ∷ [])
      (env F (v 3) v) tt (at-3 a)
      ∙ (λ i. mul (P.j_by (exact F) (sym (Q.x-all F (v 3) v a) i) 4 1) (P.n_by (exact F) (sym (Q.x-all F (v 3) v a) i) 4))

  states-at-32 : Apart F (v 3) v → P.n_of (exact F) (v 3) v 3 ≢ F.ring.zero → P.states_share (exact F) (v 3) v 3 2 ≡ P.states_share (exact F) (v 3) v 4 2
  unfolding P.j_of P.n_of
  states-at-32 a h3 =
      H.states-3 F (v 3) v 2 h3
      ∙ (λ i. mul (P.s_by (exact F) (Q.x-all F (v 3) v a i) 3 2) (F.inv (H.four F (v 3) v)))
      ∙ modulo F.ring (times (P.s_by symbolic S.f_s 3 2) S.q) (times (P.j_by symbolic S.f_s 4 2) (P.n_by symbolic S.f_s 4))
      (given (minus nought (times (times (times S.q (minus (S.x 3 2) unit)) (minus (S.x 3 2) unit)) (minus (S.x 3 1) unit))) (S.x 3 0) unit ∷ given nought (S.x 3 1) unit ∷ given nought (S.x 3 2) unit ∷ [])
      (env F (v 3) v) tt (at-3 a)
      ∙ (λ i. mul (P.j_by (exact F) (sym (Q.x-all F (v 3) v a) i) 4 2) (P.n_by (exact F) (sym (Q.x-all F (v 3) v a) i) 4))

  states-at-33 : Apart F (v 3) v → P.n_of (exact F) (v 3) v 3 ≢ F.ring.zero → P.states_share (exact F) (v 3) v 3 3 ≡ P.states_share (exact F) (v 3) v 4 3
  unfolding P.j_of P.n_of
  states-at-33 a h3 =
      H.states-3 F (v 3) v 3 h3
      ∙ (λ i. mul (P.s_by (exact F) (Q.x-all F (v 3) v a i) 3 3) (F.inv (H.four F (v 3) v)))
      ∙ modulo F.ring (times (P.s_by symbolic S.f_s 3 3) S.q) (times (P.j_by symbolic S.f_s 4 3) (P.n_by symbolic S.f_s 4))
      (given (times (times (times S.q (minus (S.x 3 1) unit)) (minus (S.x 3 2) unit)) (plus (plus (plus unit (S.x 3 0)) (S.x 3 1)) (S.x 3 2))) (S.x 3 0) unit ∷ given nought (S.x 3 1) unit ∷ given nought (S.x 3 2) unit ∷ [])
      (env F (v 3) v) tt (at-3 a)
      ∙ (λ i. mul (P.j_by (exact F) (sym (Q.x-all F (v 3) v a) i) 4 3) (P.n_by (exact F) (sym (Q.x-all F (v 3) v a) i) 4))

  -- the states of each vertex, at vertex 3
  pub states-at-3 : (k : ℕ) → Apart F (v 3) v → P.n_of (exact F) (v 3) v 3 ≢ F.ring.zero → P.states_share (exact F) (v 3) v 3 k ≡ P.states_share (exact F) (v 3) v 4 k
  unfolding P.j_of P.n_of
  states-at-3 zero = states-at-30
  states-at-3 (suc zero) = states-at-31
  states-at-3 (suc (suc zero)) = states-at-32
  states-at-3 (suc (suc (suc k))) = states-at-33
