-- What the answer yes to question 25 says: the three factors of the direction, by Cramer's rule, and exactly one row where they are above 0. Assumes nothing.
use mathlib.Core.Path.{◌≡◌, refl, sym, ◌∙◌, ap, ap₂}
use mathlib.Core.Bool.{Bool, true, false, ◌&&◌, ◌||◌}
use mathlib.Core.List.{List, [], ◌∷◌}
use mathlib.Core.Logic.{◌⊎◌, ⊎_elim}
use Prim.Native.Nat.{ℕ, zero, suc, ◌<◌}
use native.Mathlib.Omega.{arith}
use lib.Dec.{ltb, leb-suc-zero}
use lib.IntN.{ℤ, pos, negsuc, neg_ℤ, ◌+ℤ◌, ◌*ℤ◌, *ℤ_comm}
use lib.ListN.{get_or}
use lib.Signed.{lt_z, ◌<ℤ◌, lt_z_yes}
use denote.Floats.{passes, is_true}
use borrow.Author.Tests.{eqb-true, eq-eqb, lt-ltb}
use Rattle.list_laws.specs.Lists.{at}
use Rattle.list_laws.specs.Matching.{ExactlyOne}
use Rattle.list_laws.proofs.BoolLaws.{and_left, and_right, and_both}
use Rattle.list_laws.proofs.MatchingLaws.{one-counted}
use Rattle.ring_laws.specs.Expression.{var, plus, times}
use Rattle.ring_laws.proofs.IntegerLaws.{integers, mul-one, neg-mul, mul_assoc}
use Rattle.ring_laws.proofs.PolynomialLaws.{ring}
use Rattle.tetrahedron_tables.specs.Tables.{det}
use Rattle.table_rules.specs.Rows.{spanned}
use Rattle.table_rules.specs.Faces.{corner}
use Rattle.table_rules.specs.Cones.{direction, is_one_sign, is_inside, is_in_one}
use Rattle.table_laws.specs.Meaning.{IsUnit, Inside, InOne, sum_at}
use Rattle.list_laws.proofs.CountedLaws.{counted-one, exactly_as}
use Rattle.table_laws.proofs.CramerLaws.{row-spans, cramer, first-factor, second-factor, third-factor}

-- ---- 1 and -1

abbrev IsOne : ℤ → Type 0
IsOne d = (d ≡ pos 1) ⊎ (d ≡ negsuc 0)

one-mul : (s : ℤ) → pos 1 *ℤ s ≡ s
one-mul s = *ℤ_comm (pos 1) s ∙ mul-one s

minus-mul : (s : ℤ) → negsuc 0 *ℤ s ≡ neg_ℤ s
minus-mul s = neg-mul (pos 1) s ∙ ap neg_ℤ (one-mul s)

square : (d : ℤ) → IsOne d → d *ℤ d ≡ pos 1
square d u = ⊎_elim (λ e. ap₂ (λ a b. a *ℤ b) e e) (λ e. ap₂ (λ a b. a *ℤ b) e e) u

-- so that d undoes itself
undone : (d s : ℤ) → IsOne d → d *ℤ (s *ℤ d) ≡ s
undone d s u = ap (λ t. d *ℤ t) (*ℤ_comm s d) ∙ sym (mul_assoc d d s) ∙ ap (λ t. t *ℤ s) (square d u) ∙ one-mul s

or-false : (b : Bool) → (b || false) ≡ b
or-false true = refl
or-false false = refl

below-zero : (s : ℤ) → lt_z s (pos 0) ≡ lt_z (pos 0) (neg_ℤ s)
below-zero (pos zero) = refl
below-zero (pos (suc n)) = leb-suc-zero (suc n)
below-zero (negsuc n) = sym (ltb-suc n)
  where
    ltb-suc : (n : ℕ) → ltb 0 (suc n) ≡ true
    ltb-suc n = lt-ltb 0 (suc n) (omega arith)

-- one sign with 1 or -1 is a product above 0
one-sign : (d s : ℤ) → IsOne d → is_one_sign d s ≡ lt_z (pos 0) (d *ℤ s)
unfolding is_one_sign
one-sign d s u = ⊎_elim (λ e. rw e plus-sign) (λ e. rw e minus-sign) u
  where
    plus-sign : is_one_sign (pos 1) s ≡ lt_z (pos 0) (pos 1 *ℤ s)
    plus-sign = or-false (lt_z (pos 0) s) ∙ sym (ap (lt_z (pos 0)) (one-mul s))

    minus-sign : is_one_sign (negsuc 0) s ≡ lt_z (pos 0) (negsuc 0 *ℤ s)
    minus-sign = below-zero s ∙ sym (ap (lt_z (pos 0)) (minus-mul s))

-- ---- one row

module _ (row : List (List ℤ)) (u : IsUnit row) where
  abbrev a : List ℤ
  a = corner row 1

  abbrev b : List ℤ
  b = corner row 2

  abbrev c : List ℤ
  c = corner row 3

  -- the determinants with the direction in place of a corner
  abbrev s1 : ℤ
  s1 = spanned direction b c

  abbrev s2 : ℤ
  s2 = spanned a direction c

  abbrev s3 : ℤ
  s3 = spanned a b direction

  -- a factor that is above 0, and the test that says so
  positive_is : (s : ℤ) → is_one_sign (det row) s ≡ true → pos 0 <ℤ (det row *ℤ s)
  positive_is s e = lt_z_yes (passes _ (sym (one-sign (det row) s u) ∙ e))

  is_positive : (s x : ℤ) → s ≡ x *ℤ spanned a b c → pos 0 <ℤ x → is_one_sign (det row) s ≡ true
  is_positive s x e h =
      one-sign (det row) s u
      ∙ ap (lt_z (pos 0)) (ap (λ t. det row *ℤ t) (e ∙ ap (λ t. x *ℤ t) (sym (row-spans row))) ∙ undone (det row) x u)
      ∙ is_true _ h.lt

  -- the product by d moves into a sum
  out-of : (d x y z p q r : ℤ) → (((d *ℤ x) *ℤ p) +ℤ ((d *ℤ y) *ℤ q)) +ℤ ((d *ℤ z) *ℤ r) ≡ d *ℤ (((x *ℤ p) +ℤ (y *ℤ q)) +ℤ (z *ℤ r))
  out-of d x y z p q r =
      ring integers
      (plus (plus (times (times (var 0) (var 1)) (var 4)) (times (times (var 0) (var 2)) (var 5))) (times (times (var 0) (var 3)) (var 6)))
      (times (var 0) (plus (plus (times (var 1) (var 4)) (times (var 2) (var 5))) (times (var 3) (var 6))))
      (d ∷ x ∷ y ∷ z ∷ p ∷ q ∷ r ∷ []) tt

  makes : (k : ℕ) → k < 3 → at direction k ≡ sum_at (det row *ℤ s1) (det row *ℤ s2) (det row *ℤ s3) a b c k
  makes k h =
      sym
      (out-of (det row) s1 s2 s3 (at a k) (at b k) (at c k)
      ∙ ap (λ t. det row *ℤ t) (cramer a b c direction k h ∙ ap (λ t. t *ℤ at direction k) (sym (row-spans row)) ∙ *ℤ_comm (det row) (at direction k))
      ∙ undone (det row) (at direction k) u)

  -- the direction is inside where Cramer's rule says so
  pub inside-is : is_inside row ≡ true → Inside row
  unfolding is_inside
  inside-is e =
      let rest : (is_one_sign (det row) s2 && is_one_sign (det row) s3) ≡ true = and_right (is_one_sign (det row) s1) _ e in
      record {
        x = det row *ℤ s1;
        y = det row *ℤ s2;
        z = det row *ℤ s3;
        positive_x = positive_is s1 (and_left _ (is_one_sign (det row) s2 && is_one_sign (det row) s3) e);
        positive_y = positive_is s2 (and_left _ (is_one_sign (det row) s3) rest);
        positive_z = positive_is s3 (and_right (is_one_sign (det row) s2) _ rest);
        is_sum = makes;
      }

  -- and Cramer's rule says so where it is inside
  pub is-inside : Inside row → is_inside row ≡ true
  unfolding is_inside
  is-inside i =
      and_both
      (is_positive s1 i.x (first-factor a b c direction i.x i.y i.z i.is_sum) i.positive_x)
      (and_both
      (is_positive s2 i.y (second-factor a b c direction i.x i.y i.z i.is_sum) i.positive_y)
      (is_positive s3 i.z (third-factor a b c direction i.x i.y i.z i.is_sum) i.positive_z))

-- ---- the 24 rows

module _ (rows : List (List (List ℤ))) where
  abbrev inside_at : ℕ → Bool
  inside_at r = is_inside (get_or rows r [])

  -- the answer yes by the test of each row
  pub one-passes : is_in_one rows ≡ true → ExactlyOne 24 (λ r. inside_at r ≡ true)
  unfolding is_in_one
  one-passes e = one-counted 24 inside_at (eqb-true _ 1 e)

  pub passes-one : ExactlyOne 24 (λ r. inside_at r ≡ true) → is_in_one rows ≡ true
  unfolding is_in_one
  passes-one o = eq-eqb _ 1 (counted-one 24 inside_at o)

  -- QUESTION 25: of rows of determinant 1 or -1 the answer is yes exactly where one row, and no other, has the direction inside
  module _ (units : (r : ℕ) → r < 24 → IsUnit (get_or rows r [])) where
    pub in-one : is_in_one rows ≡ true → InOne rows
    in-one e =
        exactly_as 24 (λ r. inside_at r ≡ true) (λ r. Inside (get_or rows r []))
        (λ r h. inside-is (get_or rows r []) (units r h)) (λ r h. is-inside (get_or rows r []) (units r h)) (one-passes e)

    pub one-in : InOne rows → is_in_one rows ≡ true
    one-in o =
        passes-one
        (exactly_as 24 (λ r. Inside (get_or rows r [])) (λ r. inside_at r ≡ true)
        (λ r h. is-inside (get_or rows r []) (units r h)) (λ r h. inside-is (get_or rows r []) (units r h)) o)
