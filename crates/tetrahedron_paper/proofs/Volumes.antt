-- In every field: the number n of states is the volume of the tetrahedron's part below omega.
use mathlib.Core.Path.{◌≡◌, refl, sym, ◌∙◌, ap}
use mathlib.Core.Logic.{◌≢◌}
use Prim.Native.Nat.{ℕ, zero, suc}
use mathlib.Core.List.{List, [], ◌∷◌}
use native.Mathlib.Omega.{arith}
use Rattle.ring_laws.specs.Ring.{Field}
use Rattle.ring_laws.specs.Expression.{Expr, var, nought, unit, plus, minus, times}
use Rattle.ring_laws.specs.Polynomial.{Given, given}
use Rattle.ring_laws.proofs.RingLaws
use Rattle.ring_laws.proofs.PolynomialLaws.{ring, modulo}
use Rattle.tetrahedron_paper.specs.Operations.{Operations, exact}
use Rattle.tetrahedron_paper.specs.Paper as P
use Rattle.tetrahedron_paper.specs.Volume.{corner, below}
use Rattle.tetrahedron_paper.proofs.Symbolic as S
use Rattle.tetrahedron_paper.proofs.Symbolic.{symbolic}
use Rattle.tetrahedron_paper.proofs.Quotients as Q
use Rattle.tetrahedron_paper.proofs.Quotients.{Apart}
use Rattle.tetrahedron_paper.proofs.Shares.{env}

-- the product of three inverses: variables 0 to 2 the factors, 3 to 5 their inverses, 6 the inverse of the product
abbrev product : Expr
product = times (times (var 0) (var 1)) (var 2)

abbrev inverses : Expr
inverses = times (times (var 3) (var 4)) (var 5)

-- the terms by the quotients f(n, m): vertex i's is the product of the three f(j, i)
module _ (o : Operations) (f : ℕ → ℕ → o.C) where
  abbrev term : ℕ → ℕ → ℕ → ℕ → o.C
  term i j k l = o.times (o.times (f j i) (f k i)) (f l i)

  abbrev terms : ℕ → o.C
  terms zero = o.none
  terms (suc zero) = term 0 1 2 3
  terms (suc (suc zero)) = o.plus (term 0 1 2 3) (term 1 0 2 3)
  terms (suc (suc (suc zero))) = o.plus (o.plus (term 0 1 2 3) (term 1 0 2 3)) (term 2 0 1 3)
  terms (suc (suc (suc (suc n)))) = o.plus (o.plus (o.plus (term 0 1 2 3) (term 1 0 2 3)) (term 2 0 1 3)) (term 3 0 1 2)

-- f(b,a) (f(c,a) - f(c,b)) = f(c,a) (1 - f(c,b)), with its cofactor
abbrev line : Expr → ℕ → ℕ → ℕ → List Given → List Given
line e a b c s = given e (times (S.x b a) (minus (S.x c a) (S.x c b))) (times (S.x c a) (minus unit (S.x c b))) ∷ s

module _ (F : Field) where
  open F.ring use {C, one, add, neg, mul}

  -- a product of three is not 0 where none of them is
  product-not : (a b c : C) → a ≢ F.ring.zero → b ≢ F.ring.zero → c ≢ F.ring.zero → mul (mul a b) c ≢ F.ring.zero
  product-not a b c ha hb hc e =
      ha (modulo F.ring (var 0) nought
      (given (times (var 4) (var 5)) product nought ∷ given (minus nought (times (var 0) (times (var 2) (var 5)))) (times (var 1) (var 4)) unit ∷ given (minus nought (var 0)) (times (var 2) (var 5)) unit ∷ [])
      (a ∷ b ∷ c ∷ F.inv a ∷ F.inv b ∷ F.inv c ∷ []) tt (e, (F.mul-inv b hb, (F.mul-inv c hc, tt))))

  -- the inverse of a product of three
  product-inverse : (a b c : C) → a ≢ F.ring.zero → b ≢ F.ring.zero → c ≢ F.ring.zero → F.inv (mul (mul a b) c) ≡ mul (mul (F.inv a) (F.inv b)) (F.inv c)
  product-inverse a b c ha hb hc =
      modulo F.ring (var 6) inverses
      (given inverses (times product (var 6)) unit
      ∷ given (minus nought (times (var 6) (times (times (var 1) (var 4)) (times (var 2) (var 5))))) (times (var 0) (var 3)) unit
      ∷ given (minus nought (times (var 6) (times (var 2) (var 5)))) (times (var 1) (var 4)) unit
      ∷ given (minus nought (var 6)) (times (var 2) (var 5)) unit ∷ [])
      (a ∷ b ∷ c ∷ F.inv a ∷ F.inv b ∷ F.inv c ∷ F.inv (mul (mul a b) c) ∷ []) tt
      (F.mul-inv (mul (mul a b) c) (product-not a b c ha hb hc), (F.mul-inv a ha, (F.mul-inv b hb, (F.mul-inv c hc, tt))))

  module _ (w : C) (v : ℕ → C) where
    apart : (n m : ℕ) → v n ≢ v m → Q.less F w v (v n) (v m) ≢ F.ring.zero
    apart n m h e = h (RingLaws.same F.ring (v n) (v m) e)

    -- the term of a vertex is the product of its three quotients
    corner-is : (i j k l : ℕ) → v j ≢ v i → v k ≢ v i → v l ≢ v i → corner (exact F) w v i j k l ≡ term (exact F) (Q.x F w v) i j k l
    unfolding P.fraction
    corner-is i j k l hj hk hl =
        ap (mul (mul (mul (Q.less F w v w (v i)) (Q.less F w v w (v i))) (Q.less F w v w (v i)))) (product-inverse (Q.less F w v (v j) (v i)) (Q.less F w v (v k) (v i)) (Q.less F w v (v l) (v i)) (apart j i hj) (apart k i hk) (apart l i hl))
        ∙ ring F.ring (times (times (times (var 0) (var 0)) (var 0)) (times (times (var 1) (var 2)) (var 3))) (times (times (times (var 0) (var 1)) (times (var 0) (var 2))) (times (var 0) (var 3)))
        (Q.less F w v w (v i) ∷ Q.r F w v j i ∷ Q.r F w v k i ∷ Q.r F w v l i ∷ []) tt

    -- three vertices on a line of values
    line-holds : (a b c : ℕ) → v b ≢ v a → v c ≢ v a → v c ≢ v b → mul (Q.x F w v b a) (Q.less F w v (Q.x F w v c a) (Q.x F w v c b)) ≡ mul (Q.x F w v c a) (Q.less F w v one (Q.x F w v c b))
    unfolding P.fraction
    line-holds a b c hba hca hcb =
        let da = minus (var 0) (var 1) in
        let db = minus (var 0) (var 2) in
        let dc = minus (var 0) (var 3) in
        let rba = var 4 in
        let rca = var 5 in
        let rcb = var 6 in
        modulo F.ring
        (times (times da rba) (minus (times da rca) (times db rcb)))
        (times (times da rca) (minus unit (times db rcb)))
        (given (minus (minus (minus (times da rca) (times db rcb)) (times (times dc dc) (times rca rcb))) (times dc rca)) (times (minus (var 2) (var 1)) rba) unit
        ∷ given (plus (plus (plus (times db rba) (times db rcb)) (times (times dc dc) (times rba rcb))) (times dc rba)) (times (minus (var 3) (var 1)) rca) unit
        ∷ given (minus (minus (minus (times dc rca) (times db rba)) (times (times dc dc) (times rba rca))) (times dc rba)) (times (minus (var 3) (var 2)) rcb) unit ∷ [])
        (w ∷ v a ∷ v b ∷ v c ∷ Q.r F w v b a ∷ Q.r F w v c a ∷ Q.r F w v c b ∷ []) tt
        (Q.r-inverse F w v b a hba, (Q.r-inverse F w v c a hca, (Q.r-inverse F w v c b hcb, tt)))

    -- ---- the vertices differ, in either order

    d10 : Apart F w v → v 1 ≢ v 0
    d10 a = a 1 0 (omega arith) (omega arith)

    d20 : Apart F w v → v 2 ≢ v 0
    d20 a = a 2 0 (omega arith) (omega arith)

    d30 : Apart F w v → v 3 ≢ v 0
    d30 a = a 3 0 (omega arith) (omega arith)

    d21 : Apart F w v → v 2 ≢ v 1
    d21 a = a 2 1 (omega arith) (omega arith)

    d31 : Apart F w v → v 3 ≢ v 1
    d31 a = a 3 1 (omega arith) (omega arith)

    d32 : Apart F w v → v 3 ≢ v 2
    d32 a = a 3 2 (omega arith) (omega arith)

    turned : (n m : ℕ) → v n ≢ v m → v m ≢ v n
    turned n m h e = h (sym e)

    corner-0 : Apart F w v → corner (exact F) w v 0 1 2 3 ≡ term (exact F) (Q.x F w v) 0 1 2 3
    corner-0 a = corner-is 0 1 2 3 (d10 a) (d20 a) (d30 a)

    corner-1 : Apart F w v → corner (exact F) w v 1 0 2 3 ≡ term (exact F) (Q.x F w v) 1 0 2 3
    corner-1 a = corner-is 1 0 2 3 (turned 1 0 (d10 a)) (d21 a) (d31 a)

    corner-2 : Apart F w v → corner (exact F) w v 2 0 1 3 ≡ term (exact F) (Q.x F w v) 2 0 1 3
    corner-2 a = corner-is 2 0 1 3 (turned 2 0 (d20 a)) (turned 2 1 (d21 a)) (d32 a)

    corner-3 : Apart F w v → corner (exact F) w v 3 0 1 2 ≡ term (exact F) (Q.x F w v) 3 0 1 2
    corner-3 a = corner-is 3 0 1 2 (turned 3 0 (d30 a)) (turned 3 1 (d31 a)) (turned 3 2 (d32 a))

    -- the volume below is the sum of the products
    below-is : (b : ℕ) → Apart F w v → below (exact F) w v b ≡ terms (exact F) (Q.x F w v) b
    below-is zero a = refl
    below-is (suc zero) a = corner-0 a
    below-is (suc (suc zero)) a = λ i. add (corner-0 a i) (corner-1 a i)
    below-is (suc (suc (suc zero))) a = λ i. add (add (corner-0 a i) (corner-1 a i)) (corner-2 a i)
    below-is (suc (suc (suc (suc n)))) a = λ i. add (add (add (corner-0 a i) (corner-1 a i)) (corner-2 a i)) (corner-3 a i)

    by-six : (b : ℕ) → Apart F w v → terms (exact F) (Q.f_e F w v) b ≡ below (exact F) w v b
    by-six b a = (λ i. terms (exact F) (sym (Q.x-all F w v a) i) b) ∙ sym (below-is b a)

    -- ---- the number of states is the volume below omega

    pub volume-1 : Apart F w v → P.n_of (exact F) w v 1 ≡ below (exact F) w v 1
    unfolding P.n_of
    volume-1 a = sym (corner-0 a)

    pub volume-2 : Apart F w v → P.n_of (exact F) w v 2 ≡ below (exact F) w v 2
    unfolding P.n_of
    volume-2 a =
        (λ i. P.n_by (exact F) (Q.x-all F w v a i) 2)
        ∙ modulo F.ring (P.n_by symbolic S.f_s 2) (terms symbolic S.f_s 2)
        (line (minus nought (S.x 3 0)) 0 1 2 (line (minus nought (S.x 2 1)) 0 1 3 []))
        (env F w v) tt (line-holds 0 1 2 (d10 a) (d20 a) (d21 a), (line-holds 0 1 3 (d10 a) (d30 a) (d31 a), tt))
        ∙ by-six 2 a

    pub volume-3 : Apart F w v → P.n_of (exact F) w v 3 ≡ below (exact F) w v 3
    unfolding P.n_of
    volume-3 a =
        (λ i. P.n_by (exact F) (Q.x-all F w v a i) 3)
        ∙ modulo F.ring (P.n_by symbolic S.f_s 3) (terms symbolic S.f_s 3)
        (line (minus nought (S.x 3 0)) 0 1 2 (line (minus nought (S.x 2 1)) 0 1 3 (line (minus (S.x 2 1) unit) 0 2 3 (line (minus (S.x 3 0) unit) 1 2 3 []))))
        (env F w v) tt
        (line-holds 0 1 2 (d10 a) (d20 a) (d21 a), (line-holds 0 1 3 (d10 a) (d30 a) (d31 a), (line-holds 0 2 3 (d20 a) (d30 a) (d32 a), (line-holds 1 2 3 (d21 a) (d31 a) (d32 a), tt))))
        ∙ by-six 3 a

    -- above the last vertex the formula comes to 1, the whole
    pub volume-4 : Apart F w v → P.n_of (exact F) w v 4 ≡ below (exact F) w v 4
    unfolding P.n_of
    volume-4 a =
        modulo F.ring unit (terms symbolic S.f_s 4)
        (line (minus nought (S.x 3 0)) 0 1 2 (line (minus nought (S.x 2 1)) 0 1 3 (line (minus (S.x 2 1) unit) 0 2 3 (line (minus (S.x 3 0) unit) 1 2 3 []))))
        (env F w v) tt
        (line-holds 0 1 2 (d10 a) (d20 a) (d21 a), (line-holds 0 1 3 (d10 a) (d30 a) (d31 a), (line-holds 0 2 3 (d20 a) (d30 a) (d32 a), (line-holds 1 2 3 (d21 a) (d31 a) (d32 a), tt))))
        ∙ by-six 4 a
