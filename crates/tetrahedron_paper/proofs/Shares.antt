-- In every field: the shares of the four vertices sum to the whole, and the cut's mean value is omega.
use mathlib.Core.Path.{◌≡◌, sym, ◌∙◌, ap}
use mathlib.Core.Logic.{◌≢◌}
use Prim.Native.Nat.{ℕ, zero, suc, ◌<◌}
use mathlib.Core.List.{List, [], ◌∷◌}
use native.Mathlib.Omega.{arith}
use Rattle.ring_laws.specs.Ring.{Field}
use Rattle.ring_laws.specs.Expression.{Expr, var, unit, plus, minus, times}
use Rattle.ring_laws.specs.Polynomial.{given}
use Rattle.ring_laws.proofs.RingLaws
use Rattle.ring_laws.proofs.PolynomialLaws.{modulo}
use Rattle.tetrahedron_paper.specs.Operations.{exact}
use Rattle.tetrahedron_paper.specs.Paper as P
use Rattle.tetrahedron_paper.proofs.Symbolic as S
use Rattle.tetrahedron_paper.proofs.Symbolic.{symbolic, inner, table}
use Rattle.tetrahedron_paper.proofs.Quotients as Q
use Rattle.tetrahedron_paper.proofs.Quotients.{Apart}

-- the sum that the shares I between the second vertex and the third are divided by, and its second product
abbrev pub area_s : Expr
area_s = plus (times (S.f_s 1 2) (S.f_s 2 0)) (times (S.f_s 2 1) (S.f_s 1 3))

abbrev pub second_s : Expr
second_s = times (S.f_s 2 1) (S.f_s 1 3)

abbrev pub first_s : Expr
first_s = times (S.f_s 1 2) (S.f_s 2 0)

-- omega is the mean of vertices n and m
abbrev mean_s : ℕ → ℕ → Expr
mean_s n m = plus (times (S.v n) (S.x n m)) (times (S.v m) (minus unit (S.x n m)))

module _ (F : Field) (w : F.ring.C) (v : ℕ → F.ring.C) where
  open F.ring use {C, one, add, neg, mul}

  abbrev pub three : C
  three = (exact F).three

  abbrev pub four : C
  four = (exact F).four

  abbrev pub x : ℕ → ℕ → C
  x = Q.x F w v

  abbrev pub r : ℕ → ℕ → C
  r = Q.r F w v

  abbrev pub span : C
  span = Q.less F w v (v 3) (v 0)

  abbrev pub area : C
  area = add (mul (Q.f_e F w v 1 2) (Q.f_e F w v 2 0)) (mul (Q.f_e F w v 2 1) (Q.f_e F w v 1 3))

  abbrev pub area' : C
  area' = add (mul (Q.f_e F w v 1 2) (Q.f_e F w v 2 0)) (mul (Q.f_e F w v 1 3) (Q.f_e F w v 2 1))

  -- the values of the variables
  abbrev pub env : List C
  env = x 1 0 ∷ x 2 0 ∷ x 2 1 ∷ x 3 0 ∷ x 3 1 ∷ x 3 2 ∷ r 1 0 ∷ r 2 0 ∷ r 2 1 ∷ r 3 0 ∷ r 3 1 ∷ r 3 2 ∷ F.inv three ∷ F.inv four ∷ span ∷ F.inv area ∷ F.inv area' ∷ w ∷ v 0 ∷ v 1 ∷ v 2 ∷ v 3 ∷ []

  pub area_same : F.inv area' ≡ F.inv area
  area_same = ap (λ p. F.inv (add (mul (Q.f_e F w v 1 2) (Q.f_e F w v 2 0)) p)) (F.ring.mul_comm (Q.f_e F w v 1 3) (Q.f_e F w v 2 1))

  -- a quotient by n, times n
  pub cancel : (a n : C) → n ≢ F.ring.zero → mul (mul a (F.inv n)) n ≡ a
  cancel a n h =
      modulo F.ring (times (times (var 0) (var 2)) (var 1)) (var 0) (given (var 0) (times (var 1) (var 2)) unit ∷ []) (a ∷ n ∷ F.inv n ∷ []) tt (F.mul-inv n h, tt)

  -- where the density is not 0, neither is the sum that the shares are divided by
  area-not : Apart F w v → P.g_of (exact F) w v 2 ≢ F.ring.zero → area ≢ F.ring.zero
  unfolding P.g_of
  area-not a h e = h ((λ i. P.g_by (exact F) (Q.x-all F w v a i) span 2) ∙ ap (mul (mul three (F.inv span))) e ∙ RingLaws.mul-zero F.ring (mul three (F.inv span)))

  pub area'-inverse : Apart F w v → P.g_of (exact F) w v 2 ≢ F.ring.zero → mul area' (F.inv area') ≡ one
  area'-inverse a h =
      F.mul-inv area' (λ e. area-not a h (ap (add (mul (Q.f_e F w v 1 2) (Q.f_e F w v 2 0))) (F.ring.mul_comm (Q.f_e F w v 2 1) (Q.f_e F w v 1 3)) ∙ e))

  pub area-inverse : Apart F w v → P.g_of (exact F) w v 2 ≢ F.ring.zero → mul area (F.inv area) ≡ one
  area-inverse a h = F.mul-inv area (area-not a h)

  -- ---- the shares I sum to 1

  pub density-shares-1 : Apart F w v → three ≢ F.ring.zero → P.total (exact F) (P.i_of (exact F) w v 1) ≡ one
  unfolding P.i_of
  density-shares-1 a h3 =
      (λ i. P.total (exact F) (P.i_by (exact F) (Q.x-all F w v a i) 1))
      ∙ modulo F.ring (P.total symbolic (P.i_by symbolic S.f_s 1)) unit (given unit (times S.three S.t) unit ∷ []) env tt (F.mul-inv three h3, tt)

  pub density-shares-2 : Apart F w v → three ≢ F.ring.zero → P.g_of (exact F) w v 2 ≢ F.ring.zero → P.total (exact F) (P.i_of (exact F) w v 2) ≡ one
  unfolding P.i_of
  density-shares-2 a h3 hg =
      (λ i. P.total (exact F) (P.i_by (exact F) (Q.x-all F w v a i) 2))
      ∙ modulo F.ring (P.total symbolic (P.i_by symbolic S.f_s 2)) unit
      (given unit (times S.three S.t) unit ∷ given S.t (times area_s S.y) unit ∷ given (times S.t second_s) S.y' S.y ∷ [])
      env tt (F.mul-inv three h3, (area-inverse a hg, (area_same, tt)))

  pub density-shares-3 : Apart F w v → three ≢ F.ring.zero → P.total (exact F) (P.i_of (exact F) w v 3) ≡ one
  unfolding P.i_of
  density-shares-3 a h3 =
      (λ i. P.total (exact F) (P.i_by (exact F) (Q.x-all F w v a i) 3))
      ∙ modulo F.ring (P.total symbolic (P.i_by symbolic S.f_s 3)) unit (given unit (times S.three S.t) unit ∷ []) env tt (F.mul-inv three h3, tt)

  -- ---- the states J n of the four vertices sum to n

  -- between the second vertex and the third, J n is a quarter of the sum over the corners
  pub states-2 : (k : ℕ) → P.n_of (exact F) w v 2 ≢ F.ring.zero → P.states_share (exact F) w v 2 k ≡ mul (P.s_by (exact F) x 2 k) (F.inv four)
  unfolding P.j_of P.n_of
  states-2 zero h = cancel (mul (P.s_by (exact F) x 2 0) (F.inv four)) (P.n_by (exact F) x 2) h
  states-2 (suc zero) h = cancel (mul (P.s_by (exact F) x 2 1) (F.inv four)) (P.n_by (exact F) x 2) h
  states-2 (suc (suc zero)) h = cancel (mul (P.s_by (exact F) x 2 2) (F.inv four)) (P.n_by (exact F) x 2) h
  states-2 (suc (suc (suc k))) h = cancel (mul (P.s_by (exact F) x 2 3) (F.inv four)) (P.n_by (exact F) x 2) h

  -- and so between the third and the last
  pub states-3 : (k : ℕ) → P.n_of (exact F) w v 3 ≢ F.ring.zero → P.states_share (exact F) w v 3 k ≡ mul (P.s_by (exact F) x 3 k) (F.inv four)
  unfolding P.j_of P.n_of
  states-3 zero h = cancel (mul (P.s_by (exact F) x 3 0) (F.inv four)) (P.n_by (exact F) x 3) h
  states-3 (suc zero) h = cancel (mul (P.s_by (exact F) x 3 1) (F.inv four)) (P.n_by (exact F) x 3) h
  states-3 (suc (suc zero)) h = cancel (mul (P.s_by (exact F) x 3 2) (F.inv four)) (P.n_by (exact F) x 3) h
  states-3 (suc (suc (suc k))) h = cancel (mul (P.s_by (exact F) x 3 3) (F.inv four)) (P.n_by (exact F) x 3) h

  pub states-shares-1 : Apart F w v → four ≢ F.ring.zero → P.total (exact F) (P.states_share (exact F) w v 1) ≡ P.n_of (exact F) w v 1
  unfolding P.j_of P.n_of
  states-shares-1 a h4 =
      (λ i. P.total (exact F) (λ k. mul (P.j_by (exact F) (Q.x-all F w v a i) 1 k) (P.n_by (exact F) (Q.x-all F w v a i) 1)))
      ∙ modulo F.ring (P.total symbolic (λ k. times (P.j_by symbolic S.f_s 1 k) (P.n_by symbolic S.f_s 1))) (P.n_by symbolic S.f_s 1)
      (given (P.n_by symbolic S.f_s 1) (times S.four S.q) unit ∷ [])
      env tt (F.mul-inv four h4, tt)
      ∙ (λ i. P.n_by (exact F) (sym (Q.x-all F w v a) i) 1)

  pub states-shares-2 : Apart F w v → four ≢ F.ring.zero → P.n_of (exact F) w v 2 ≢ F.ring.zero → P.total (exact F) (P.states_share (exact F) w v 2) ≡ P.n_of (exact F) w v 2
  unfolding P.n_of
  states-shares-2 a h4 hn =
      (λ i. P.total (exact F) (λ k. states-2 k hn i))
      ∙ (λ i. P.total (exact F) (λ k. mul (P.s_by (exact F) (Q.x-all F w v a i) 2 k) (F.inv four)))
      ∙ modulo F.ring (P.total symbolic (λ k. times (P.s_by symbolic S.f_s 2 k) S.q)) (P.n_by symbolic S.f_s 2)
      (given (P.n_by symbolic S.f_s 2) (times S.four S.q) unit ∷ [])
      env tt (F.mul-inv four h4, tt)
      ∙ (λ i. P.n_by (exact F) (sym (Q.x-all F w v a) i) 2)

  pub states-shares-3 : Apart F w v → four ≢ F.ring.zero → P.n_of (exact F) w v 3 ≢ F.ring.zero → P.total (exact F) (P.states_share (exact F) w v 3) ≡ P.n_of (exact F) w v 3
  unfolding P.n_of
  states-shares-3 a h4 hn =
      (λ i. P.total (exact F) (λ k. states-3 k hn i))
      ∙ (λ i. P.total (exact F) (λ k. mul (P.s_by (exact F) (Q.x-all F w v a i) 3 k) (F.inv four)))
      ∙ modulo F.ring (P.total symbolic (λ k. times (P.s_by symbolic S.f_s 3 k) S.q)) (P.n_by symbolic S.f_s 3)
      (given (P.n_by symbolic S.f_s 3) (times S.four S.q) unit ∷ [])
      env tt (F.mul-inv four h4, tt)
      ∙ (λ i. P.n_by (exact F) (sym (Q.x-all F w v a) i) 3)

  -- ---- the mean of the vertices, by the shares I, is omega

  mean : (n m : ℕ) → m < n → n < 4 → Apart F w v → add (mul (v n) (x n m)) (mul (v m) (Q.less F w v one (x n m))) ≡ w
  mean n m l l' a = Q.x-mean F w v n m (a n m l l')

  pub mean-1 : Apart F w v → three ≢ F.ring.zero → P.total (exact F) (λ k. mul (P.i_of (exact F) w v 1 k) (v k)) ≡ w
  unfolding P.i_of
  mean-1 a h3 =
      (λ i. P.total (exact F) (λ k. mul (P.i_by (exact F) (Q.x-all F w v a i) 1 k) (v k)))
      ∙ modulo F.ring (P.total symbolic (λ k. times (P.i_by symbolic S.f_s 1 k) (S.v k))) S.w
      (given S.w (times S.three S.t) unit ∷ given S.t (mean_s 1 0) S.w ∷ given S.t (mean_s 2 0) S.w ∷ given S.t (mean_s 3 0) S.w ∷ [])
      env tt (F.mul-inv three h3, (mean 1 0 (omega arith) (omega arith) a, (mean 2 0 (omega arith) (omega arith) a, (mean 3 0 (omega arith) (omega arith) a, tt))))

  pub mean-2 : Apart F w v → three ≢ F.ring.zero → P.g_of (exact F) w v 2 ≢ F.ring.zero → P.total (exact F) (λ k. mul (P.i_of (exact F) w v 2 k) (v k)) ≡ w
  unfolding P.i_of
  mean-2 a h3 hg =
      (λ i. P.total (exact F) (λ k. mul (P.i_by (exact F) (Q.x-all F w v a i) 2 k) (v k)))
      ∙ modulo F.ring (P.total symbolic (λ k. times (P.i_by symbolic S.f_s 2 k) (S.v k))) S.w
      (given S.w (times S.three S.t) unit ∷ given (times S.w S.t) (times area_s S.y) unit ∷ given (times (times S.w S.t) second_s) S.y' S.y
      ∷ given S.t (mean_s 3 0) S.w ∷ given S.t (mean_s 2 1) S.w ∷ given (times (times S.t first_s) S.y) (mean_s 2 0) S.w ∷ given (times (times S.t second_s) S.y') (mean_s 3 1) S.w ∷ [])
      env tt
      (F.mul-inv three h3, (area-inverse a hg, (area_same, (mean 3 0 (omega arith) (omega arith) a, (mean 2 1 (omega arith) (omega arith) a, (mean 2 0 (omega arith) (omega arith) a, (mean 3 1 (omega arith) (omega arith) a, tt)))))))

  pub mean-3 : Apart F w v → three ≢ F.ring.zero → P.total (exact F) (λ k. mul (P.i_of (exact F) w v 3 k) (v k)) ≡ w
  unfolding P.i_of
  mean-3 a h3 =
      (λ i. P.total (exact F) (λ k. mul (P.i_by (exact F) (Q.x-all F w v a i) 3 k) (v k)))
      ∙ modulo F.ring (P.total symbolic (λ k. times (P.i_by symbolic S.f_s 3 k) (S.v k))) S.w
      (given S.w (times S.three S.t) unit ∷ given S.t (mean_s 3 0) S.w ∷ given S.t (mean_s 3 1) S.w ∷ given S.t (mean_s 3 2) S.w ∷ [])
      env tt (F.mul-inv three h3, (mean 3 0 (omega arith) (omega arith) a, (mean 3 1 (omega arith) (omega arith) a, (mean 3 2 (omega arith) (omega arith) a, tt))))
