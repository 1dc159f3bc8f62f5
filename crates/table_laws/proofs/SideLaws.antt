-- What a computed side says of a row's corners, and that a row of determinant 1 or -1 has a face in one way only. So the two rows of a face by their sides are the two rows by their corners. Assumes nothing.
use mathlib.Core.Path.{◌≡◌, refl, sym, ◌∙◌, ap}
use mathlib.Core.Bool.{Bool, true, false, cond, ◌&&◌, ◌||◌}
use mathlib.Core.List.{List}
use mathlib.Core.Logic.{◌⊎◌, inl, inr, ⊎_elim}
use Prim.Native.Nat.{ℕ, zero, suc, ◌<◌}
use native.Mathlib.Omega.{arith}
use lib.IntN.{ℤ, pos, negsuc}
use denote.Floats.{passes, is_true}
use lib.Signed.{lt_z, lt_z_yes}
use Rattle.std.specs.Prelude.{Option, Some, None}
use Rattle.list_laws.specs.Lists.{at}
use Rattle.list_laws.specs.Signed.{eq_z}
use Rattle.list_laws.proofs.BoolLaws.{clash, and_left, and_right, and_both, true-or-false}
use Rattle.list_laws.proofs.EqualLaws.{equal_is, equal-itself}
use Rattle.table_rules.specs.Rows.{spanned}
use Rattle.table_rules.specs.Faces.{corner, is_same, is_face, side, has_face, lies_above, lies_below}
use Rattle.table_laws.specs.Meaning.{row_in, IsUnit, SamePlace, MakeFace, HasFace, TwoRows, Paired}
use Rattle.table_laws.proofs.FaceLaws.{apart-sides}
use Rattle.table_laws.proofs.CramerLaws.{row-spans, twice-first, twice-second, twice-third}

-- ---- points

same-place : (p a : List ℤ) → is_same p a ≡ true → SamePlace p a
unfolding is_same
same-place p a e zero h = equal_is _ _ (and_left _ (eq_z (at p 1) (at a 1)) (and_left _ (eq_z (at p 2) (at a 2)) e))
same-place p a e (suc zero) h = equal_is _ _ (and_right (eq_z (at p 0) (at a 0)) _ (and_left _ (eq_z (at p 2) (at a 2)) e))
same-place p a e (suc (suc zero)) h = equal_is _ _ (and_right (eq_z (at p 0) (at a 0) && eq_z (at p 1) (at a 1)) _ e)
same-place p a e (suc (suc (suc k))) h = absurd (omega arith)

place-same : (p a : List ℤ) → SamePlace p a → is_same p a ≡ true
unfolding is_same
place-same p a s = and_both (and_both (equal 0 (omega arith)) (equal 1 (omega arith))) (equal 2 (omega arith))
  where
    equal : (k : ℕ) → k < 3 → eq_z (at p k) (at a k) ≡ true
    equal k h = rw (s k h) (equal-itself (at a k))

back : (p a : List ℤ) → SamePlace p a → SamePlace a p
back p a s k h = sym (s k h)

through : (p a q : List ℤ) → SamePlace p a → SamePlace q a → SamePlace p q
through p a q s t k h = s k h ∙ sym (t k h)

-- ---- faces

or-of : (x y : Bool) → x || y ≡ true → (x ≡ true) ⊎ (y ≡ true)
or-of true y e = inl refl
or-of false y e = inr e

or-left : {x : Bool} (y : Bool) → x ≡ true → x || y ≡ true
or-left y e = rw e refl

or-right : (x : Bool) {y : Bool} → y ≡ true → x || y ≡ true
or-right true e = refl
or-right false e = e

make-face : (p q a b : List ℤ) → is_face p q a b ≡ true → MakeFace p q a b
unfolding is_face
make-face p q a b e =
    ⊎_elim
    (λ t. inl (same-place p a (and_left _ (is_same q b) t), same-place q b (and_right (is_same p a) _ t)))
    (λ t. inr (same-place p b (and_left _ (is_same q a) t), same-place q a (and_right (is_same p b) _ t)))
    (or-of (is_same p a && is_same q b) (is_same p b && is_same q a) e)

face-make : (p q a b : List ℤ) → MakeFace p q a b → is_face p q a b ≡ true
unfolding is_face
face-make p q a b m =
    ⊎_elim
    (λ t. or-left (is_same p b && is_same q a) (and_both (place-same p a t.0) (place-same q b t.1)))
    (λ t. or-right (is_same p a && is_same q b) (and_both (place-same p b t.0) (place-same q a t.1)))
    m

turn : (p q a b : List ℤ) → MakeFace p q a b → MakeFace q p a b
turn p q a b m = ⊎_elim (λ t. inr (t.1, t.0)) (λ t. inl (t.1, t.0)) m

-- two corners that make one face with a common third are one point
share : (p q r a b : List ℤ) → MakeFace p q a b → MakeFace q r a b → SamePlace p r
share p q r a b m n =
    ⊎_elim
    (λ s. ⊎_elim
    (λ t k h. s.0 k h ∙ sym (t.0 k h) ∙ s.1 k h ∙ sym (t.1 k h))
    (λ t. through p a r s.0 t.1)
    n)
    (λ s. ⊎_elim
    (λ t. through p b r s.0 t.1)
    (λ t k h. s.0 k h ∙ sym (t.0 k h) ∙ s.1 k h ∙ sym (t.1 k h))
    n)
    m

-- ---- the side of a row

Some_same : (x y : ℤ) → Some x ≡ Some y → x ≡ y
Some_same x y e = ap (value x) e
  where
    value : ℤ → Option ℤ → ℤ
    value z None = z
    value z (Some d) = d

module _ (row : List (List ℤ)) (a b : List ℤ) where
  -- the three pairs of corners, and whether they are the face
  abbrev on12 : Bool
  on12 = is_face (corner row 1) (corner row 2) a b

  abbrev on23 : Bool
  on23 = is_face (corner row 2) (corner row 3) a b

  abbrev on31 : Bool
  on31 = is_face (corner row 3) (corner row 1) a b

  -- the determinant of the face and a corner
  abbrev with_corner : ℕ → ℤ
  with_corner third = spanned a b (corner row third)

  -- a side comes from a face, with its third corner
  pub side-face : (d : ℤ) → side row a b ≡ Some d → (third : ℕ) × HasFace row a b third × (d ≡ with_corner third)
  unfolding side
  side-face d e = by on12 on23 on31 (make-face _ _ a b) (make-face _ _ a b) (make-face _ _ a b) e
    where
      by : (p q r : Bool) → (p ≡ true → MakeFace (corner row 1) (corner row 2) a b) → (q ≡ true → MakeFace (corner row 2) (corner row 3) a b)
          → (r ≡ true → MakeFace (corner row 3) (corner row 1) a b)
          → cond p (Some (with_corner 3)) (cond q (Some (with_corner 1)) (cond r (Some (with_corner 2)) None)) ≡ Some d
          → (third : ℕ) × HasFace row a b third × (d ≡ with_corner third)
      by true q r f g h e = (3, inl (f refl, refl), sym (Some_same _ d e))
      by false true r f g h e = (1, inr (inl (g refl, refl)), sym (Some_same _ d e))
      by false false true f g h e = (2, inr (inr (h refl, refl)), sym (Some_same _ d e))
      by false false false f g h e = clash (ap has_face e)

  -- and a row with a face has it on a side
  pub face-side : (third : ℕ) → HasFace row a b third → has_face (side row a b) ≡ true
  unfolding side
  face-side third m = by on12 on23 on31 has
    where
      has : (on12 ≡ true) ⊎ ((on23 ≡ true) ⊎ (on31 ≡ true))
      has = ⊎_elim (λ t. inl (face-make _ _ a b t.0)) (λ s. inr (⊎_elim (λ t. inl (face-make _ _ a b t.0)) (λ t. inr (face-make _ _ a b t.0)) s)) m

      by : (p q r : Bool) → (p ≡ true) ⊎ ((q ≡ true) ⊎ (r ≡ true))
          → has_face (cond p (Some (with_corner 3)) (cond q (Some (with_corner 1)) (cond r (Some (with_corner 2)) None))) ≡ true
      by true q r s = refl
      by false true r s = refl
      by false false true s = refl
      by false false false s = ⊎_elim (λ t. t) (λ s. ⊎_elim (λ t. t) (λ t. t) s) s

  -- which is the one of its third corner, where the determinant is not 0
  module _ (u : IsUnit row) where
    not-zero : spanned (corner row 1) (corner row 2) (corner row 3) ≡ pos 0 → ⊥
    not-zero e = ⊎_elim (λ f. differ (sym f ∙ row-spans row ∙ e)) (λ f. differ' (sym f ∙ row-spans row ∙ e)) u
      where
        differ : pos 1 ≡ pos 0 → ⊥
        differ g = clash (ap (λ z. eq_z z (pos 1)) (sym g))

        differ' : negsuc 0 ≡ pos 0 → ⊥
        differ' g = clash (ap (λ z. eq_z z (negsuc 0)) (sym g))

    not12-23 : MakeFace (corner row 1) (corner row 2) a b → MakeFace (corner row 2) (corner row 3) a b → ⊥
    not12-23 m n = not-zero (twice-third _ _ _ (back _ _ (share _ (corner row 2) _ a b m n)))

    not12-31 : MakeFace (corner row 1) (corner row 2) a b → MakeFace (corner row 3) (corner row 1) a b → ⊥
    not12-31 m n = not-zero (twice-second _ _ _ (share _ (corner row 1) _ a b (turn _ _ a b m) (turn _ _ a b n)))

    not23-31 : MakeFace (corner row 2) (corner row 3) a b → MakeFace (corner row 3) (corner row 1) a b → ⊥
    not23-31 m n = not-zero (twice-first _ _ _ (back _ _ (share _ (corner row 3) _ a b m n)))

    off : (p q : List ℤ) → (MakeFace p q a b → ⊥) → is_face p q a b ≡ false
    off p q never = ⊎_elim (λ t. absurd (never (make-face p q a b t))) (λ t. t) (true-or-false (is_face p q a b))

    pub side-is : (third : ℕ) → HasFace row a b third → side row a b ≡ Some (with_corner third)
    unfolding side
    side-is third m =
        ⊎_elim
        (λ t. rw (face-make (corner row 1) (corner row 2) a b t.0, t.1) refl)
        (λ s. ⊎_elim
        (λ t. rw (off (corner row 1) (corner row 2) (λ n. not12-23 n t.0), face-make (corner row 2) (corner row 3) a b t.0, t.1) refl)
        (λ t. rw (off (corner row 1) (corner row 2) (λ n. not12-31 n t.0), off (corner row 2) (corner row 3) (λ n. not23-31 n t.0), face-make (corner row 3) (corner row 1) a b t.0, t.1) refl)
        s)
        m

-- ---- the two rows of a face

ups : (o : Option ℤ) → lies_above o ≡ true → (d : ℤ) × (o ≡ Some d) × (lt_z (pos 0) d ≡ true)
ups None e = clash e
ups (Some d) e = (d, refl, e)

downs : (o : Option ℤ) → lies_below o ≡ true → (d : ℤ) × (o ≡ Some d) × (lt_z d (pos 0) ≡ true)
downs None e = clash e
downs (Some d) e = (d, refl, e)

module _ (rows : List (List (List ℤ))) (a b : List ℤ) where
  pub two-rows : Paired rows a b → TwoRows rows a b
  two-rows p =
      let up : (d : ℤ) × (side (row_in rows p.one.which) a b ≡ Some d) × (lt_z (pos 0) d ≡ true) = ups _ p.one.holds in
      let down : (d : ℤ) × (side (row_in rows p.other.which) a b ≡ Some d) × (lt_z d (pos 0) ≡ true) = downs _ p.other.holds in
      let high : (third : ℕ) × HasFace (row_in rows p.one.which) a b third × (up.0 ≡ with_corner (row_in rows p.one.which) a b third) =
      side-face (row_in rows p.one.which) a b up.0 up.1 in
      let low : (third : ℕ) × HasFace (row_in rows p.other.which) a b third × (down.0 ≡ with_corner (row_in rows p.other.which) a b third) =
      side-face (row_in rows p.other.which) a b down.0 down.1 in
      record {
        one = p.one.which;
        other = p.other.which;
        one_below = p.one.below;
        other_below = p.other.below;
        apart = p.apart;
        one_third = high.0;
        other_third = low.0;
        one_has = high.1;
        other_has = low.1;
        above = lt_z_yes (passes _ (rw high.2 at up.2));
        under = lt_z_yes (passes _ (rw low.2 at down.2));
        only = λ s third l m. p.only s l (face-side (row_in rows s) a b third m);
      }

  -- and back, where no row's determinant is 0
  module _ (units : (r : ℕ) → r < 24 → IsUnit (row_in rows r)) where
    pub paired-two : TwoRows rows a b → Paired rows a b
    paired-two t =
        let up : lies_above (side (row_in rows t.one) a b) ≡ true =
        ap lies_above (side-is (row_in rows t.one) a b (units t.one t.one_below) t.one_third t.one_has) ∙ is_true _ t.above.lt in
        let down : lies_below (side (row_in rows t.other) a b) ≡ true =
        ap lies_below (side-is (row_in rows t.other) a b (units t.other t.other_below) t.other_third t.other_has) ∙ is_true _ t.under.lt in
        record {
          one = record {
            which = t.one;
            below = t.one_below;
            holds = up;
            only = λ k h e. ⊎_elim (λ s. s) (λ s. absurd (apart-sides rows a b k e (rw s down))) (which k h (above-has (side (row_in rows k) a b) e));
          };
          other = record {
            which = t.other;
            below = t.other_below;
            holds = down;
            only = λ k h e. ⊎_elim (λ s. absurd (apart-sides rows a b k (rw s up) e)) (λ s. s) (which k h (below-has (side (row_in rows k) a b) e));
          };
          apart = t.apart;
          only = which;
        }
      where
        above-has : (o : Option ℤ) → lies_above o ≡ true → has_face o ≡ true
        above-has None e = e
        above-has (Some d) e = refl

        below-has : (o : Option ℤ) → lies_below o ≡ true → has_face o ≡ true
        below-has None e = e
        below-has (Some d) e = refl

        some-of : (o : Option ℤ) → has_face o ≡ true → (d : ℤ) × (o ≡ Some d)
        some-of None e = clash e
        some-of (Some d) e = (d, refl)

        which : (k : ℕ) → k < 24 → has_face (side (row_in rows k) a b) ≡ true → (k ≡ t.one) ⊎ (k ≡ t.other)
        which k h e =
            let d : (d : ℤ) × (side (row_in rows k) a b ≡ Some d) = some-of _ e in
            let m : (third : ℕ) × HasFace (row_in rows k) a b third × (d.0 ≡ with_corner (row_in rows k) a b third) = side-face (row_in rows k) a b d.0 d.1 in
            t.only k m.0 h m.1
