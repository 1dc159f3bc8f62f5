-- The range that the text gives omega, in every ordered field with a test of its order; and the method in that range, for ascending vertices and every omega.
use mathlib.Core.Path.{◌≡◌, refl, sym, subst}
use mathlib.Core.Bool.{Bool, true, false, cond}
use Prim.Native.Nat.{ℕ, zero, suc, ◌<◌}
use native.Mathlib.Omega.{arith}
use lib.Dec.{T}
use Rattle.ring_laws.specs.Ring.{Ordered, Below, AtMost, LinearOrdered}
use Rattle.tetrahedron_paper.specs.Paper as P
use Rattle.tetrahedron_paper.specs.Method.{Method, Ascending, Between}
use Rattle.tetrahedron_paper.proofs.Inside as I

past : (b : ℕ) → suc (suc (suc (suc (suc b)))) < 5 → ⊥
past b l = omega arith

module _ (L : LinearOrdered) where
  abbrev O : Ordered
  O = L.ordered

  abbrev C : Type 0
  C = O.field.ring.C

  -- what the test says where it passes and where it fails
  yes-below : (a b : C) → L.less a b ≡ true → Below O a b
  yes-below a b e = L.less-below a b (subst T (sym e) tt)

  no-below : (a b : C) → L.less a b ≡ false → AtMost O b a
  no-below a b e p = subst T e (L.below_less a b p)

  test-yes : (a b : C) → Below O a b → L.less a b ≡ true
  test-yes a b p = go (L.less a b) (L.below_less a b p)
    where
      go : (t : Bool) → T t → t ≡ true
      go true h = refl
      go false h = absurd h

  test-no : (a b : C) → AtMost O b a → L.less a b ≡ false
  test-no a b p = go (L.less a b) (λ h. p (L.less-below a b h))
    where
      go : (t : Bool) → ¬ T t → t ≡ false
      go true h = absurd (h tt)
      go false h = refl

  module _ (w : C) (v : ℕ → C) where
    -- omega lies in the range that the text gives it
    pub range : Between O w v (P.branch_of L.less w v)
    unfolding P.branch_of
    range = go (L.less w (v 0)) refl (L.less w (v 1)) refl (L.less w (v 2)) refl (L.less w (v 3)) refl
      where
        go : (s : Bool) → L.less w (v 0) ≡ s → (t : Bool) → L.less w (v 1) ≡ t → (r : Bool) → L.less w (v 2) ≡ r → (q : Bool) → L.less w (v 3) ≡ q
            → Between O w v (cond s 0 (cond t 1 (cond r 2 (cond q 3 4))))
        go true e0 t e1 r e2 q e3 = yes-below w (v 0) e0
        go false e0 true e1 r e2 q e3 = (no-below w (v 0) e0, yes-below w (v 1) e1)
        go false e0 false e1 true e2 q e3 = (no-below w (v 1) e1, yes-below w (v 2) e2)
        go false e0 false e1 false e2 true e3 = (no-below w (v 2) e2, yes-below w (v 3) e3)
        go false e0 false e1 false e2 false e3 = no-below w (v 3) e3

    -- omega is at least at the vertices before the one it is at least at
    from : Ascending O v → (n m : ℕ) → m < n → n < 4 → AtMost O (v n) w → AtMost O (v m) w
    from a n m l l' p q = p (I.below-trans O w (v m) (v n) q (a n m l l'))

    -- and in no other, where the vertices ascend
    pub only : Ascending O v → (b : ℕ) → b < 5 → Between O w v b → P.branch_of L.less w v ≡ b
    unfolding P.branch_of
    only a zero l h = λ i. cond (test-yes w (v 0) h i) 0 (cond (L.less w (v 1)) 1 (cond (L.less w (v 2)) 2 (cond (L.less w (v 3)) 3 4)))
    only a (suc zero) l h = λ i. cond (test-no w (v 0) h.0 i) 0 (cond (test-yes w (v 1) h.1 i) 1 (cond (L.less w (v 2)) 2 (cond (L.less w (v 3)) 3 4)))
    only a (suc (suc zero)) l h =
        λ i. cond (test-no w (v 0) (from a 1 0 (omega arith) (omega arith) h.0) i) 0
        (cond (test-no w (v 1) h.0 i) 1 (cond (test-yes w (v 2) h.1 i) 2 (cond (L.less w (v 3)) 3 4)))
    only a (suc (suc (suc zero))) l h =
        λ i. cond (test-no w (v 0) (from a 2 0 (omega arith) (omega arith) h.0) i) 0
        (cond (test-no w (v 1) (from a 2 1 (omega arith) (omega arith) h.0) i) 1 (cond (test-no w (v 2) h.0 i) 2 (cond (test-yes w (v 3) h.1 i) 3 4)))
    only a (suc (suc (suc (suc zero)))) l h =
        λ i. cond (test-no w (v 0) (from a 3 0 (omega arith) (omega arith) h) i) 0
        (cond (test-no w (v 1) (from a 3 1 (omega arith) (omega arith) h) i) 1
        (cond (test-no w (v 2) (from a 3 2 (omega arith) (omega arith) h) i) 2 (cond (test-no w (v 3) h i) 3 4)))
    only a (suc (suc (suc (suc (suc b))))) l h = absurd (past b l)

    -- the method from vertex b up to the next: at the vertex, or above it
    from-vertex : (b : ℕ) → b < 3 → Ascending O v → AtMost O (v b) w → Below O w (v (suc b)) → Method O.field w v (suc b)
    from-vertex b l a p q = go (L.less (v b) w) refl
      where
        go : (t : Bool) → L.less (v b) w ≡ t → Method O.field w v (suc b)
        go true e = I.inside O w v b l a (yes-below (v b) w e) q
        go false e = subst (λ x. Method O.field x v (suc b)) (L.connected (v b) w p (no-below (v b) w e)) (I.at-vertex O v b l a)

    pub within : (b : ℕ) → b < 5 → Ascending O v → Between O w v b → Method O.field w v b
    within zero l a h = I.before O w v
    within (suc zero) l a h = from-vertex 0 (omega arith) a h.0 h.1
    within (suc (suc zero)) l a h = from-vertex 1 (omega arith) a h.0 h.1
    within (suc (suc (suc zero))) l a h = from-vertex 2 (omega arith) a h.0 h.1
    within (suc (suc (suc (suc zero)))) l a h = I.after O w v a
    within (suc (suc (suc (suc (suc b))))) l a h = absurd (past b l)

    -- the text gives one of the five ranges
    five : P.branch_of L.less w v < 5
    unfolding P.branch_of
    five = go (L.less w (v 0)) (L.less w (v 1)) (L.less w (v 2)) (L.less w (v 3))
      where
        go : (s t r q : Bool) → cond s 0 (cond t 1 (cond r 2 (cond q 3 4))) < 5
        go true t r q = omega arith
        go false true r q = omega arith
        go false false true q = omega arith
        go false false false true = omega arith
        go false false false false = omega arith

    -- THE METHOD, for ascending vertices and every omega, in the range that the text gives omega
    pub everywhere : Ascending O v → Method O.field w v (P.branch_of L.less w v)
    everywhere a = within (P.branch_of L.less w v) five a range
