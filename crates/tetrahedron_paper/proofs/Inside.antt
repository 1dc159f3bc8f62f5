-- In every ordered field, with ascending vertices, n and g are positive between the first vertex and the last: so the method needs no other premise there.
use mathlib.Core.Path.{◌≡◌, sym, ◌∙◌, subst}
use mathlib.Core.Logic.{◌≢◌}
use Prim.Native.Nat.{ℕ, zero, suc, ◌<◌}
use mathlib.Core.List.{[], ◌∷◌}
use native.Mathlib.Omega.{arith}
use Rattle.ring_laws.specs.Ring.{Field, Ordered, Below}
use Rattle.ring_laws.specs.Expression.{var, nought, unit, plus, minus, times}
use Rattle.ring_laws.specs.Polynomial.{given}
use Rattle.ring_laws.proofs.RingLaws
use Rattle.ring_laws.proofs.PolynomialLaws.{ring, modulo}
use Rattle.tetrahedron_paper.specs.Operations.{exact}
use Rattle.tetrahedron_paper.specs.Paper as P
use Rattle.tetrahedron_paper.specs.Method.{Differ, Method, Joined, Ascending}
use Rattle.tetrahedron_paper.proofs.Symbolic as S
use Rattle.tetrahedron_paper.proofs.Symbolic.{symbolic}
use Rattle.tetrahedron_paper.proofs.Quotients as Q
use Rattle.tetrahedron_paper.proofs.Shares as H
use Rattle.tetrahedron_paper.proofs.Ends as E
use Rattle.tetrahedron_paper.proofs.MethodLaws as M

past : (b : ℕ) → suc (suc (suc b)) < 3 → ⊥
past b l = omega arith

past-last : (b : ℕ) → suc (suc (suc (suc b))) < 4 → ⊥
past-last b l = omega arith

none_below : 0 < 0 → ⊥
none_below l = omega arith

not-inner : 3 < 3 → ⊥
not-inner l = omega arith

module _ (O : Ordered) where
  infixl 6 ◌⊞◌
  infixl 7 ◌⊛◌
  open O.field.ring use {C, one, add, neg, mul}

  abbrev F : Field
  F = O.field

  pub not-zero : (a : C) → O.Positive a → a ≢ F.ring.zero
  not-zero a p e = O.zero-not (subst O.Positive e p)

  pub below-trans : (a b c : C) → Below O a b → Below O b c → Below O a c
  below-trans a b c p q =
      subst O.Positive (ring F.ring (plus (minus (var 1) (var 0)) (minus (var 2) (var 1))) (minus (var 2) (var 0)) (a ∷ b ∷ c ∷ []) tt)
      (O.add-positive (add b (neg a)) (add c (neg b)) p q)

  three-positive : O.Positive (exact F).three
  three-positive = O.add-positive (add one one) one (O.add-positive one one O.one-positive O.one-positive) O.one-positive

  four-positive : O.Positive (exact F).four
  four-positive = O.add-positive (exact F).three one three-positive O.one-positive

  ◌⊛◌ : {a b : C} → O.Positive a → O.Positive b → O.Positive (mul a b)
  ◌⊛◌ {a} {b} p q = O.mul-positive a b p q

  ◌⊞◌ : {a b : C} → O.Positive a → O.Positive b → O.Positive (add a b)
  ◌⊞◌ {a} {b} p q = O.add-positive a b p q

  module _ (w : C) (v : ℕ → C) where
    r-positive : (n m : ℕ) → Below O (v m) (v n) → O.Positive (Q.r F w v n m)
    r-positive n m p = O.inv-positive (add (v n) (neg (v m))) p

    -- f(n, m) is positive where omega is above vertex m, and 1 - f(n, m) where it is below vertex n
    up : (n m : ℕ) → Below O (v m) (v n) → Below O (v m) w → O.Positive (Q.x F w v n m)
    unfolding P.fraction
    up n m p q = q ⊛ r-positive n m p

    differ : Ascending O v → Differ F v
    differ a n m l l' e = not-zero (add (v n) (neg (v m))) (a n m l l') (RingLaws.less-same F.ring (v n) (v m) e)

    down : (n m : ℕ) → Below O (v m) (v n) → Below O w (v n) → O.Positive (Q.less F w v one (Q.x F w v n m))
    unfolding P.fraction
    down n m p q =
        subst O.Positive
        (modulo F.ring (times (minus (var 1) (var 0)) (var 3)) (minus unit (times (minus (var 0) (var 2)) (var 3)))
        (given unit (times (minus (var 1) (var 2)) (var 3)) unit ∷ [])
        (w ∷ v n ∷ v m ∷ Q.r F w v n m ∷ []) tt
        (Q.r-inverse F w v n m (λ e. not-zero (add (v n) (neg (v m))) p (RingLaws.less-same F.ring (v n) (v m) e)), tt))
        (q ⊛ r-positive n m p)

    -- omega above the vertices up to the one below the range, and below the others
    above : Ascending O v → (n m : ℕ) → m < n → n < 4 → Below O (v n) w → Below O (v m) w
    above a n m l l' p = below-trans (v m) (v n) w (a n m l l') p

    under : Ascending O v → (n m : ℕ) → m < n → n < 4 → Below O w (v m) → Below O w (v n)
    under a n m l l' p = below-trans w (v m) (v n) p (a n m l l')

    span-positive : Ascending O v → O.Positive (Q.r F w v 3 0)
    span-positive a = r-positive 3 0 (a 3 0 (omega arith) (omega arith))

    -- ---- between the first vertex and the second

    number-1 : Ascending O v → Below O (v 0) w → O.Positive (P.n_of (exact F) w v 1)
    unfolding P.n_of
    number-1 a p = up 1 0 (a 1 0 (omega arith) (omega arith)) p ⊛ up 2 0 (a 2 0 (omega arith) (omega arith)) p ⊛ up 3 0 (a 3 0 (omega arith) (omega arith)) p

    density-1 : Ascending O v → Below O (v 0) w → O.Positive (P.g_of (exact F) w v 1)
    unfolding P.g_of
    density-1 a p = three-positive ⊛ up 1 0 (a 1 0 (omega arith) (omega arith)) p ⊛ up 2 0 (a 2 0 (omega arith) (omega arith)) p ⊛ span-positive a

    -- ---- between the second and the third, by the six quotients

    module _ (a : Ascending O v) (p : Below O (v 1) w) (q : Below O w (v 2)) where
      x20 : O.Positive (Q.x F w v 2 0)
      x20 = up 2 0 (a 2 0 (omega arith) (omega arith)) (above a 1 0 (omega arith) (omega arith) p)

      x30 : O.Positive (Q.x F w v 3 0)
      x30 = up 3 0 (a 3 0 (omega arith) (omega arith)) (above a 1 0 (omega arith) (omega arith) p)

      x21 : O.Positive (Q.x F w v 2 1)
      x21 = up 2 1 (a 2 1 (omega arith) (omega arith)) p

      x31 : O.Positive (Q.x F w v 3 1)
      x31 = up 3 1 (a 3 1 (omega arith) (omega arith)) p

      x12 : O.Positive (Q.less F w v one (Q.x F w v 2 1))
      x12 = down 2 1 (a 2 1 (omega arith) (omega arith)) q

      x13 : O.Positive (Q.less F w v one (Q.x F w v 3 1))
      x13 = down 3 1 (a 3 1 (omega arith) (omega arith)) (under a 3 2 (omega arith) (omega arith) q)

      number-2 : O.Positive (P.n_of (exact F) w v 2)
      unfolding P.n_of
      number-2 = subst O.Positive (λ i. P.n_by (exact F) (sym (Q.x-all F w v (differ a)) i) 2) (x31 ⊛ x21 ⊞ x30 ⊛ x13 ⊛ x21 ⊞ x30 ⊛ x20 ⊛ x12)

      density-2 : O.Positive (P.g_of (exact F) w v 2)
      unfolding P.g_of
      density-2 = subst O.Positive (λ i. P.g_by (exact F) (sym (Q.x-all F w v (differ a)) i) (H.span F w v) 2) (three-positive ⊛ span-positive a ⊛ (x12 ⊛ x20 ⊞ x21 ⊛ x13))

    -- ---- between the third and the last

    module _ (a : Ascending O v) (q : Below O w (v 3)) where
      y03 : O.Positive (Q.less F w v one (Q.x F w v 3 0))
      y03 = down 3 0 (a 3 0 (omega arith) (omega arith)) q

      y13 : O.Positive (Q.less F w v one (Q.x F w v 3 1))
      y13 = down 3 1 (a 3 1 (omega arith) (omega arith)) q

      y23 : O.Positive (Q.less F w v one (Q.x F w v 3 2))
      y23 = down 3 2 (a 3 2 (omega arith) (omega arith)) q

      density-3 : O.Positive (P.g_of (exact F) w v 3)
      unfolding P.g_of
      density-3 = subst O.Positive (λ i. P.g_by (exact F) (sym (Q.x-all F w v (differ a)) i) (H.span F w v) 3) (three-positive ⊛ y13 ⊛ y23 ⊛ span-positive a)

      -- 1 less the small tetrahedron at the last vertex is this sum, of which the last term is 0 at the third vertex
      module _ (p : Below O (v 1) w) where
        first_two : O.Positive (add (Q.x F w v 3 0) (mul (Q.less F w v one (Q.x F w v 3 0)) (Q.x F w v 3 1)))
        first_two = up 3 0 (a 3 0 (omega arith) (omega arith)) (above a 1 0 (omega arith) (omega arith) p) ⊞ y03 ⊛ up 3 1 (a 3 1 (omega arith) (omega arith)) p

        number-3 : Below O (v 2) w → O.Positive (P.n_of (exact F) w v 3)
        unfolding P.n_of
        number-3 r =
            subst O.Positive
            (ring F.ring (plus (plus (S.x 3 0) (times (S.f_s 0 3) (S.x 3 1))) (times (times (S.f_s 0 3) (S.f_s 1 3)) (S.x 3 2))) (P.n_by symbolic S.f_s 3) (H.env F w v) tt
            ∙ (λ i. P.n_by (exact F) (sym (Q.x-all F w v (differ a)) i) 3))
            (first_two ⊞ y03 ⊛ y13 ⊛ up 3 2 (a 3 2 (omega arith) (omega arith)) r)

        number-3-at : Q.x F w v 3 2 ≡ F.ring.zero → O.Positive (P.n_of (exact F) w v 3)
        unfolding P.n_of
        number-3-at e =
            subst O.Positive
            (modulo F.ring (plus (S.x 3 0) (times (S.f_s 0 3) (S.x 3 1))) (P.n_by symbolic S.f_s 3)
            (given (minus nought (times (S.f_s 0 3) (S.f_s 1 3))) (S.x 3 2) nought ∷ []) (H.env F w v) tt (e, tt)
            ∙ (λ i. P.n_by (exact F) (sym (Q.x-all F w v (differ a)) i) 3))
            first_two

    -- the method inside each range: omega above vertex b and below the next
    pub inside : (b : ℕ) → b < 3 → Ascending O v → Below O (v b) w → Below O w (v (suc b)) → Method F w v (suc b)
    inside zero l a p q = M.method-1 F w v (not-zero (exact F).three three-positive) (not-zero (exact F).four four-positive) (differ a)
    inside (suc zero) l a p q =
        M.method-2 F w v (not-zero (exact F).three three-positive) (not-zero (exact F).four four-positive) (differ a)
        (not-zero (P.n_of (exact F) w v 2) (number-2 a p q)) (not-zero (P.g_of (exact F) w v 2) (density-2 a p q))
    inside (suc (suc zero)) l a p q =
        M.method-3 F w v (not-zero (exact F).three three-positive) (not-zero (exact F).four four-positive) (differ a)
        (not-zero (P.n_of (exact F) w v 3) (number-3 a q (above a 2 1 (omega arith) (omega arith) p) p))
    inside (suc (suc (suc b))) l a p q = absurd (past b l)

    -- and outside them
    pub before : Method F w v 0
    before = M.method-0 F w v

    pub after : Ascending O v → Method F w v 4
    after a = M.method-4 F w v (not-zero (exact F).four four-positive) (differ a)

  -- at a vertex: the vertices alone
  module _ (v : ℕ → C) where
    number-at-2 : Ascending O v → O.Positive (P.n_of (exact F) (v 2) v 3)
    number-at-2 a = number-3-at (v 2) v a (a 3 2 (omega arith) (omega arith)) (a 2 1 (omega arith) (omega arith)) (E.x-zero F v 3 2)

    -- the method at vertex b, in the range above it
    pub at-vertex : (b : ℕ) → b < 3 → Ascending O v → Method F (v b) v (suc b)
    at-vertex zero l a = M.method-1 F (v 0) v (not-zero (exact F).three three-positive) (not-zero (exact F).four four-positive) (differ (v 0) v a)
    at-vertex (suc zero) l a =
        M.method-2 F (v 1) v (not-zero (exact F).three three-positive) (not-zero (exact F).four four-positive) (differ (v 1) v a)
        (λ e. not-zero (P.n_of (exact F) (v 1) v 1) (number-1 (v 1) v a (a 1 0 (omega arith) (omega arith))) (E.number-at-1 F v (differ (v 1) v a) ∙ e))
        (λ e. not-zero (P.g_of (exact F) (v 1) v 1) (density-1 (v 1) v a (a 1 0 (omega arith) (omega arith))) (E.density-at-1 F v (differ (v 1) v a) ∙ e))
    at-vertex (suc (suc zero)) l a =
        M.method-3 F (v 2) v (not-zero (exact F).three three-positive) (not-zero (exact F).four four-positive) (differ (v 2) v a)
        (not-zero (P.n_of (exact F) (v 2) v 3) (number-at-2 a))
    at-vertex (suc (suc (suc b))) l a = absurd (past b l)

    -- the ranges join at every vertex
    pub joined : (b : ℕ) → b < 4 → Ascending O v → Joined F v b
    joined zero l a = M.joined F v 0 l (differ (v 0) v a) (λ p. absurd (none_below p)) (λ p. absurd (none_below p))
    joined (suc zero) l a =
        M.joined F v 1 l (differ (v 1) v a)
        (λ p. not-zero (P.n_of (exact F) (v 1) v 1) (number-1 (v 1) v a (a 1 0 (omega arith) (omega arith))))
        (λ p q. not-zero (P.g_of (exact F) (v 1) v 1) (density-1 (v 1) v a (a 1 0 (omega arith) (omega arith))))
    joined (suc (suc zero)) l a =
        M.joined F v 2 l (differ (v 2) v a)
        (λ p e. not-zero (P.n_of (exact F) (v 2) v 3) (number-at-2 a) (sym (E.number-at-2 F v (differ (v 2) v a)) ∙ e))
        (λ p q e. not-zero (P.g_of (exact F) (v 2) v 3) (density-3 (v 2) v a (a 3 2 (omega arith) (omega arith))) (sym (E.density-at-2 F v (differ (v 2) v a)) ∙ e))
    joined (suc (suc (suc zero))) l a =
        M.joined F v 3 l (differ (v 3) v a)
        (λ p e. not-zero one O.one-positive (sym (M.ends F (v 3) v).1 ∙ sym (E.number-at-3 F v (differ (v 3) v a)) ∙ e))
        (λ p q. absurd (not-inner q))
    joined (suc (suc (suc (suc b)))) l a = absurd (past-last b l)
