-- In every field: at each vertex the density I g of each vertex is the same in the two neighbouring ranges, so it is continuous. The share I alone is not: it leaves 0 at the first vertex and falls to 0 at the last, where g is 0.
use mathlib.Core.Path.{◌≡◌, sym, ◌∙◌}
use mathlib.Core.Logic.{◌≢◌}
use Prim.Native.Nat.{ℕ, zero, suc}
use mathlib.Core.List.{[], ◌∷◌}
use Rattle.ring_laws.specs.Ring.{Field}
use Rattle.ring_laws.specs.Expression.{Expr, nought, unit, plus, minus, times}
use Rattle.ring_laws.specs.Polynomial.{given}
use Rattle.ring_laws.proofs.PolynomialLaws.{modulo}
use Rattle.tetrahedron_paper.specs.Operations.{exact}
use Rattle.tetrahedron_paper.specs.Paper as P
use Rattle.tetrahedron_paper.proofs.Symbolic as S
use Rattle.tetrahedron_paper.proofs.Symbolic.{symbolic}
use Rattle.tetrahedron_paper.proofs.Quotients as Q
use Rattle.tetrahedron_paper.proofs.Quotients.{Apart}
use Rattle.tetrahedron_paper.proofs.Shares as H
use Rattle.tetrahedron_paper.proofs.Shares.{env, area_s}
use Rattle.tetrahedron_paper.proofs.Ends as E

-- the same sum, its second product in the other order
abbrev area_s' : Expr
area_s' = plus (times (S.f_s 1 2) (S.f_s 2 0)) (times (S.f_s 1 3) (S.f_s 2 1))

-- I g of a vertex in a range, as an expression
abbrev share_s : ℕ → ℕ → Expr
share_s b k = times (P.i_by symbolic S.f_s b k) (P.g_by symbolic S.f_s S.span b)

module _ (F : Field) (v : ℕ → F.ring.C) where
  open F.ring use {C, one, add, neg, mul}

  -- I g by the six quotients below the diagonal
  over-six : (w : C) → Apart F w v → (b k : ℕ)
      → P.density_share (exact F) w v b k ≡ mul (P.i_by (exact F) (Q.f_e F w v) b k) (P.g_by (exact F) (Q.f_e F w v) (H.span F w v) b)
  unfolding P.i_of P.g_of
  over-six w a b k = λ i. mul (P.i_by (exact F) (Q.x-all F w v a i) b k) (P.g_by (exact F) (Q.x-all F w v a i) (H.span F w v) b)

  shares-at-00 : Apart F (v 0) v → P.density_share (exact F) (v 0) v 0 0 ≡ P.density_share (exact F) (v 0) v 1 0
  shares-at-00 a =
      over-six (v 0) a 0 0
      ∙ modulo F.ring (share_s 0 0) (share_s 1 0)
      (given (times (times (times (times S.three (S.r 3 0)) S.t) (S.x 2 0)) (minus (plus (plus (S.x 1 0) (S.x 2 0)) (S.x 3 0)) S.three)) (S.x 1 0) nought
      ∷ given nought (S.x 2 0) nought
      ∷ given nought (S.x 3 0) nought ∷ [])
      (env F (v 0) v) tt (E.at-0 F v a)
      ∙ sym (over-six (v 0) a 1 0)

  shares-at-01 : Apart F (v 0) v → P.density_share (exact F) (v 0) v 0 1 ≡ P.density_share (exact F) (v 0) v 1 1
  shares-at-01 a =
      over-six (v 0) a 0 1
      ∙ modulo F.ring (share_s 0 1) (share_s 1 1)
      (given (minus nought (times (times (times (times S.three (S.r 3 0)) S.t) (S.x 1 0)) (S.x 2 0))) (S.x 1 0) nought
      ∷ given nought (S.x 2 0) nought
      ∷ given nought (S.x 3 0) nought ∷ [])
      (env F (v 0) v) tt (E.at-0 F v a)
      ∙ sym (over-six (v 0) a 1 1)

  shares-at-02 : Apart F (v 0) v → P.density_share (exact F) (v 0) v 0 2 ≡ P.density_share (exact F) (v 0) v 1 2
  shares-at-02 a =
      over-six (v 0) a 0 2
      ∙ modulo F.ring (share_s 0 2) (share_s 1 2)
      (given (minus nought (times (times (times (times S.three (S.r 3 0)) S.t) (S.x 2 0)) (S.x 2 0))) (S.x 1 0) nought
      ∷ given nought (S.x 2 0) nought
      ∷ given nought (S.x 3 0) nought ∷ [])
      (env F (v 0) v) tt (E.at-0 F v a)
      ∙ sym (over-six (v 0) a 1 2)

  shares-at-03 : Apart F (v 0) v → P.density_share (exact F) (v 0) v 0 3 ≡ P.density_share (exact F) (v 0) v 1 3
  shares-at-03 a =
      over-six (v 0) a 0 3
      ∙ modulo F.ring (share_s 0 3) (share_s 1 3)
      (given (minus nought (times (times (times (times S.three (S.r 3 0)) S.t) (S.x 2 0)) (S.x 3 0))) (S.x 1 0) nought
      ∷ given nought (S.x 2 0) nought
      ∷ given nought (S.x 3 0) nought ∷ [])
      (env F (v 0) v) tt (E.at-0 F v a)
      ∙ sym (over-six (v 0) a 1 3)

  -- I g of each vertex, at vertex 0
  pub shares-at-0 : (k : ℕ) → Apart F (v 0) v → P.density_share (exact F) (v 0) v 0 k ≡ P.density_share (exact F) (v 0) v 1 k
  unfolding P.i_of P.g_of
  shares-at-0 zero = shares-at-00
  shares-at-0 (suc zero) = shares-at-01
  shares-at-0 (suc (suc zero)) = shares-at-02
  shares-at-0 (suc (suc (suc k))) = shares-at-03

  shares-at-10 : Apart F (v 1) v → P.g_of (exact F) (v 1) v 2 ≢ F.ring.zero → P.density_share (exact F) (v 1) v 1 0 ≡ P.density_share (exact F) (v 1) v 2 0
  shares-at-10 a h =
      over-six (v 1) a 1 0
      ∙ modulo F.ring (share_s 1 0) (share_s 2 0)
      (given (minus nought (times (times (times (times (times S.three (S.r 3 0)) S.t) (S.x 2 0)) (minus (S.x 2 0) unit)) (minus (S.x 2 1) unit))) (times area_s S.y) unit
      ∷ given (minus nought (times (times (times (times S.three (S.r 3 0)) S.t) (S.x 2 0)) (minus (plus (plus (S.x 1 0) (S.x 2 0)) (S.x 3 0)) S.two))) (S.x 1 0) unit
      ∷ given (minus nought (times (times (times S.three (S.r 3 0)) S.t) (minus (minus (minus (plus (plus (plus unit (times (S.x 2 0) (S.x 2 0))) (times (S.x 2 0) (S.x 3 0))) (times (S.x 3 0) (S.x 3 1))) (S.x 3 0)) (S.x 3 1)) (times S.two (S.x 2 0))))) (S.x 2 1) nought
      ∷ given nought (S.x 3 1) nought ∷ [])
      (env F (v 1) v) tt ((H.area-inverse F (v 1) v a h, E.at_1 F v a))
      ∙ sym (over-six (v 1) a 2 0)

  shares-at-11 : Apart F (v 1) v → P.g_of (exact F) (v 1) v 2 ≢ F.ring.zero → P.density_share (exact F) (v 1) v 1 1 ≡ P.density_share (exact F) (v 1) v 2 1
  shares-at-11 a h =
      over-six (v 1) a 1 1
      ∙ modulo F.ring (share_s 1 1) (share_s 2 1)
      (given (minus nought (times (times (times (times (times S.three (S.r 3 0)) S.t) (S.x 2 1)) (minus (S.x 3 1) unit)) (minus (S.x 3 1) unit))) (times area_s' S.y') unit
      ∷ given (times (times (times (times S.three (S.r 3 0)) S.t) (S.x 2 0)) (plus unit (S.x 1 0))) (S.x 1 0) unit
      ∷ given (minus nought (times (times (times S.three (S.r 3 0)) S.t) (minus (minus (minus (plus (plus (plus S.two (times (S.x 3 1) (S.x 3 1))) (times (S.x 2 0) (S.x 2 1))) (times (S.x 2 1) (S.x 3 1))) (S.x 2 1)) (times S.three (S.x 3 1))) (times S.two (S.x 2 0))))) (S.x 2 1) nought
      ∷ given nought (S.x 3 1) nought ∷ [])
      (env F (v 1) v) tt ((H.area'-inverse F (v 1) v a h, E.at_1 F v a))
      ∙ sym (over-six (v 1) a 2 1)

  shares-at-12 : Apart F (v 1) v → P.g_of (exact F) (v 1) v 2 ≢ F.ring.zero → P.density_share (exact F) (v 1) v 1 2 ≡ P.density_share (exact F) (v 1) v 2 2
  shares-at-12 a h =
      over-six (v 1) a 1 2
      ∙ modulo F.ring (share_s 1 2) (share_s 2 2)
      (given (times (times (times (times (times S.three (S.r 3 0)) S.t) (S.x 2 0)) (S.x 2 0)) (minus (S.x 2 1) unit)) (times area_s S.y) unit
      ∷ given (times (times (times (times S.three (S.r 3 0)) S.t) (S.x 2 0)) (S.x 2 0)) (S.x 1 0) unit
      ∷ given (times (times (times S.three (S.r 3 0)) S.t) (minus (minus (plus (plus (times (S.x 2 0) (S.x 2 0)) (times (S.x 2 0) (S.x 2 1))) (times (S.x 2 1) (S.x 3 1))) (S.x 2 0)) (S.x 2 1))) (S.x 2 1) nought
      ∷ given nought (S.x 3 1) nought ∷ [])
      (env F (v 1) v) tt ((H.area-inverse F (v 1) v a h, E.at_1 F v a))
      ∙ sym (over-six (v 1) a 2 2)

  shares-at-13 : Apart F (v 1) v → P.g_of (exact F) (v 1) v 2 ≢ F.ring.zero → P.density_share (exact F) (v 1) v 1 3 ≡ P.density_share (exact F) (v 1) v 2 3
  shares-at-13 a h =
      over-six (v 1) a 1 3
      ∙ modulo F.ring (share_s 1 3) (share_s 2 3)
      (given (times (times (times (times (times S.three (S.r 3 0)) S.t) (S.x 2 1)) (S.x 3 1)) (minus (S.x 3 1) unit)) (times area_s' S.y') unit
      ∷ given (times (times (times (times S.three (S.r 3 0)) S.t) (S.x 2 0)) (S.x 3 0)) (S.x 1 0) unit
      ∷ given (times (times (times S.three (S.r 3 0)) S.t) (minus (minus (plus (plus (times (S.x 3 1) (S.x 3 1)) (times (S.x 2 0) (S.x 3 0))) (times (S.x 3 0) (S.x 3 1))) (S.x 3 0)) (S.x 3 1))) (S.x 2 1) nought
      ∷ given nought (S.x 3 1) nought ∷ [])
      (env F (v 1) v) tt ((H.area'-inverse F (v 1) v a h, E.at_1 F v a))
      ∙ sym (over-six (v 1) a 2 3)

  -- I g of each vertex, at vertex 1
  pub shares-at-1 : (k : ℕ) → Apart F (v 1) v → P.g_of (exact F) (v 1) v 2 ≢ F.ring.zero → P.density_share (exact F) (v 1) v 1 k ≡ P.density_share (exact F) (v 1) v 2 k
  unfolding P.i_of P.g_of
  shares-at-1 zero = shares-at-10
  shares-at-1 (suc zero) = shares-at-11
  shares-at-1 (suc (suc zero)) = shares-at-12
  shares-at-1 (suc (suc (suc k))) = shares-at-13

  shares-at-20 : Apart F (v 2) v → P.g_of (exact F) (v 2) v 2 ≢ F.ring.zero → P.density_share (exact F) (v 2) v 2 0 ≡ P.density_share (exact F) (v 2) v 3 0
  shares-at-20 a h =
      over-six (v 2) a 2 0
      ∙ modulo F.ring (share_s 2 0) (share_s 3 0)
      (given (times (times (times (times (times S.three (S.r 3 0)) S.t) (S.x 2 0)) (minus (S.x 2 0) unit)) (minus (S.x 2 1) unit)) (times area_s S.y) unit
      ∷ given (times (times (times (times S.three (S.r 3 0)) S.t) (minus (S.x 2 1) unit)) (minus (plus (S.x 2 0) (S.x 3 0)) unit)) (S.x 2 0) unit
      ∷ given (times (times (times (times S.three (S.r 3 0)) S.t) (S.x 3 1)) (minus (S.x 3 0) unit)) (S.x 2 1) unit
      ∷ given (times (times (times (times S.three (S.r 3 0)) S.t) (minus (S.x 3 0) unit)) (minus (S.x 3 1) unit)) (S.x 3 2) nought ∷ [])
      (env F (v 2) v) tt ((H.area-inverse F (v 2) v a h, E.at-2 F v a))
      ∙ sym (over-six (v 2) a 3 0)

  shares-at-21 : Apart F (v 2) v → P.g_of (exact F) (v 2) v 2 ≢ F.ring.zero → P.density_share (exact F) (v 2) v 2 1 ≡ P.density_share (exact F) (v 2) v 3 1
  shares-at-21 a h =
      over-six (v 2) a 2 1
      ∙ modulo F.ring (share_s 2 1) (share_s 3 1)
      (given (times (times (times (times (times S.three (S.r 3 0)) S.t) (S.x 2 1)) (minus (S.x 3 1) unit)) (minus (S.x 3 1) unit)) (times area_s' S.y') unit
      ∷ given (times (times (times (times S.three (S.r 3 0)) S.t) (minus (S.x 2 1) unit)) (minus (S.x 2 1) unit)) (S.x 2 0) unit
      ∷ given (times (times (times (times S.three (S.r 3 0)) S.t) (S.x 3 1)) (minus (plus (S.x 2 1) (S.x 3 1)) S.two)) (S.x 2 1) unit
      ∷ given (times (times (times (times S.three (S.r 3 0)) S.t) (minus (S.x 3 1) unit)) (minus (S.x 3 1) unit)) (S.x 3 2) nought ∷ [])
      (env F (v 2) v) tt ((H.area'-inverse F (v 2) v a h, E.at-2 F v a))
      ∙ sym (over-six (v 2) a 3 1)

  shares-at-22 : Apart F (v 2) v → P.g_of (exact F) (v 2) v 2 ≢ F.ring.zero → P.density_share (exact F) (v 2) v 2 2 ≡ P.density_share (exact F) (v 2) v 3 2
  shares-at-22 a h =
      over-six (v 2) a 2 2
      ∙ modulo F.ring (share_s 2 2) (share_s 3 2)
      (given (minus nought (times (times (times (times (times S.three (S.r 3 0)) S.t) (S.x 2 0)) (S.x 2 0)) (minus (S.x 2 1) unit))) (times area_s S.y) unit
      ∷ given (minus nought (times (times (times (times S.three (S.r 3 0)) S.t) (minus (S.x 2 1) unit)) (plus (plus unit (S.x 2 0)) (S.x 2 1)))) (S.x 2 0) unit
      ∷ given (minus nought (times (times (times (times S.three (S.r 3 0)) S.t) (S.x 3 1)) (plus unit (S.x 2 1)))) (S.x 2 1) unit
      ∷ given (times (times (times (times S.three (S.r 3 0)) S.t) (minus (S.x 3 1) unit)) (minus (S.x 3 2) S.two)) (S.x 3 2) nought ∷ [])
      (env F (v 2) v) tt ((H.area-inverse F (v 2) v a h, E.at-2 F v a))
      ∙ sym (over-six (v 2) a 3 2)

  shares-at-23 : Apart F (v 2) v → P.g_of (exact F) (v 2) v 2 ≢ F.ring.zero → P.density_share (exact F) (v 2) v 2 3 ≡ P.density_share (exact F) (v 2) v 3 3
  shares-at-23 a h =
      over-six (v 2) a 2 3
      ∙ modulo F.ring (share_s 2 3) (share_s 3 3)
      (given (minus nought (times (times (times (times (times S.three (S.r 3 0)) S.t) (S.x 2 1)) (S.x 3 1)) (minus (S.x 3 1) unit))) (times area_s' S.y') unit
      ∷ given (minus nought (times (times (times (times S.three (S.r 3 0)) S.t) (S.x 3 0)) (minus (S.x 2 1) unit))) (S.x 2 0) unit
      ∷ given (minus nought (times (times (times (times S.three (S.r 3 0)) S.t) (S.x 3 1)) (minus (plus (S.x 3 0) (S.x 3 1)) unit))) (S.x 2 1) unit
      ∷ given (minus nought (times (times (times (times S.three (S.r 3 0)) S.t) (minus (S.x 3 1) unit)) (minus (plus (plus (S.x 3 0) (S.x 3 1)) (S.x 3 2)) unit))) (S.x 3 2) nought ∷ [])
      (env F (v 2) v) tt ((H.area'-inverse F (v 2) v a h, E.at-2 F v a))
      ∙ sym (over-six (v 2) a 3 3)

  -- I g of each vertex, at vertex 2
  pub shares-at-2 : (k : ℕ) → Apart F (v 2) v → P.g_of (exact F) (v 2) v 2 ≢ F.ring.zero → P.density_share (exact F) (v 2) v 2 k ≡ P.density_share (exact F) (v 2) v 3 k
  unfolding P.i_of P.g_of
  shares-at-2 zero = shares-at-20
  shares-at-2 (suc zero) = shares-at-21
  shares-at-2 (suc (suc zero)) = shares-at-22
  shares-at-2 (suc (suc (suc k))) = shares-at-23

  shares-at-30 : Apart F (v 3) v → P.density_share (exact F) (v 3) v 3 0 ≡ P.density_share (exact F) (v 3) v 4 0
  shares-at-30 a =
      over-six (v 3) a 3 0
      ∙ modulo F.ring (share_s 3 0) (share_s 4 0)
      (given (minus nought (times (times (times (times S.three (S.r 3 0)) S.t) (minus (S.x 3 1) unit)) (minus (S.x 3 2) unit))) (S.x 3 0) unit
      ∷ given nought (S.x 3 1) unit
      ∷ given nought (S.x 3 2) unit ∷ [])
      (env F (v 3) v) tt (E.at-3 F v a)
      ∙ sym (over-six (v 3) a 4 0)

  shares-at-31 : Apart F (v 3) v → P.density_share (exact F) (v 3) v 3 1 ≡ P.density_share (exact F) (v 3) v 4 1
  shares-at-31 a =
      over-six (v 3) a 3 1
      ∙ modulo F.ring (share_s 3 1) (share_s 4 1)
      (given nought (S.x 3 0) unit
      ∷ given (minus nought (times (times (times (times S.three (S.r 3 0)) S.t) (minus (S.x 3 1) unit)) (minus (S.x 3 2) unit))) (S.x 3 1) unit
      ∷ given nought (S.x 3 2) unit ∷ [])
      (env F (v 3) v) tt (E.at-3 F v a)
      ∙ sym (over-six (v 3) a 4 1)

  shares-at-32 : Apart F (v 3) v → P.density_share (exact F) (v 3) v 3 2 ≡ P.density_share (exact F) (v 3) v 4 2
  shares-at-32 a =
      over-six (v 3) a 3 2
      ∙ modulo F.ring (share_s 3 2) (share_s 4 2)
      (given nought (S.x 3 0) unit
      ∷ given (minus nought (times (times (times (times S.three (S.r 3 0)) S.t) (minus (S.x 3 2) unit)) (minus (S.x 3 2) unit))) (S.x 3 1) unit
      ∷ given nought (S.x 3 2) unit ∷ [])
      (env F (v 3) v) tt (E.at-3 F v a)
      ∙ sym (over-six (v 3) a 4 2)

  shares-at-33 : Apart F (v 3) v → P.density_share (exact F) (v 3) v 3 3 ≡ P.density_share (exact F) (v 3) v 4 3
  shares-at-33 a =
      over-six (v 3) a 3 3
      ∙ modulo F.ring (share_s 3 3) (share_s 4 3)
      (given (times (times (times (times S.three (S.r 3 0)) S.t) (minus (S.x 3 1) unit)) (minus (S.x 3 2) unit)) (S.x 3 0) unit
      ∷ given (times (times (times (times S.three (S.r 3 0)) S.t) (minus (S.x 3 2) unit)) (plus (plus unit (S.x 3 1)) (S.x 3 2))) (S.x 3 1) unit
      ∷ given nought (S.x 3 2) unit ∷ [])
      (env F (v 3) v) tt (E.at-3 F v a)
      ∙ sym (over-six (v 3) a 4 3)

  -- I g of each vertex, at vertex 3
  pub shares-at-3 : (k : ℕ) → Apart F (v 3) v → P.density_share (exact F) (v 3) v 3 k ≡ P.density_share (exact F) (v 3) v 4 k
  unfolding P.i_of P.g_of
  shares-at-3 zero = shares-at-30
  shares-at-3 (suc zero) = shares-at-31
  shares-at-3 (suc (suc zero)) = shares-at-32
  shares-at-3 (suc (suc (suc k))) = shares-at-33
