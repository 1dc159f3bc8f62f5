-- What the answer yes to question 24 says of each face, by count, and that it says no more. Assumes nothing.
use mathlib.Core.Path.{◌≡◌}
use mathlib.Core.Bool.{Bool, true, false, ◌&&◌}
use mathlib.Core.List.{List, []}
use mathlib.Core.Logic.{◌⊎◌, inl, inr, ⊎_elim}
use Prim.Native.Nat.{ℕ, ◌+◌, ◌≤◌, ◌<◌}
use native.Mathlib.Omega.{arith}
use lib.Dec.{eqb, ltb, leb-suc-zero}
use lib.IntN.{ℤ, pos, negsuc}
use lib.ListN.{get_or}
use lib.Signed.{lt_z}
use borrow.Author.Tests.{eqb-true, eq-eqb}
use Rattle.std.specs.Prelude.{Option, Some, None}
use Rattle.list_laws.specs.Lists.{one_if}
use Rattle.list_laws.specs.Matching.{ExactlyOne}
use Rattle.list_laws.proofs.BelowLaws.{below_at, below_all}
use Rattle.list_laws.proofs.BoolLaws.{and_left, and_right, and_both}
use Rattle.list_laws.proofs.MatchingLaws.{one-counted}
use Rattle.table_rules.specs.Faces.{corner, side, has_face, lies_above, lies_below, rows_with, is_paired, is_row_paired, are_paired}
use Rattle.table_laws.specs.Meaning.{Paired, EachFace}
use Rattle.list_laws.proofs.CountedLaws.{counted-one, count-least, count-most, covered}

-- ---- the sides of a face

one-most : (b : Bool) → one_if b ≤ 1
one-most true = omega arith
one-most false = omega arith

-- a row lies on one side only, and only on a face that it has
one-side : (o : Option ℤ) → one_if (lies_above o) + one_if (lies_below o) ≤ one_if (has_face o)
one-side None = omega arith
one-side (Some d) = sign d
  where
    sign : (d : ℤ) → one_if (lt_z (pos 0) d) + one_if (lt_z d (pos 0)) ≤ 1
    sign (pos n) = rw (leb-suc-zero n) (omega (arith, one-most (ltb 0 n)))
    sign (negsuc n) = omega arith

module _ (rows : List (List (List ℤ))) (a b : List ℤ) where
  -- the three tests of a row's side
  abbrev test : (Option ℤ → Bool) → ℕ → Bool
  test p s = p (side (get_or rows s []) a b)

  -- no row lies on both
  pub apart-sides : (s : ℕ) → test lies_above s ≡ true → test lies_below s ≡ true → ⊥
  apart-sides s e f =
      let up : one_if (test lies_above s) ≡ 1 = rw e in
      let down : one_if (test lies_below s) ≡ 1 = rw f in
      omega (arith, one-side (side (get_or rows s []) a b), one-most (test has_face s))

  -- the counts of a yes
  module _ (e : is_paired rows a b ≡ true) where
    has-two : rows_with has_face rows a b 24 ≡ 2
    unfolding is_paired
    has-two = eqb-true _ 2 (and_left _ (eqb (rows_with lies_above rows a b 24) 1 && eqb (rows_with lies_below rows a b 24) 1) e)

    ones : (eqb (rows_with lies_above rows a b 24) 1 && eqb (rows_with lies_below rows a b 24) 1) ≡ true
    unfolding is_paired
    ones = and_right (eqb (rows_with has_face rows a b 24) 2) _ e

    above-one : rows_with lies_above rows a b 24 ≡ 1
    above-one = eqb-true _ 1 (and_left _ (eqb (rows_with lies_below rows a b 24) 1) ones)

    below-one : rows_with lies_below rows a b 24 ≡ 1
    below-one = eqb-true _ 1 (and_right (eqb (rows_with lies_above rows a b 24) 1) _ ones)

    pub face-paired : Paired rows a b
    face-paired =
        let up : ExactlyOne 24 (λ s. test lies_above s ≡ true) = one-counted 24 (test lies_above) above-one in
        let down : ExactlyOne 24 (λ s. test lies_below s ≡ true) = one-counted 24 (test lies_below) below-one in
        record {
          one = up;
          other = down;
          apart = λ same. apart-sides down.which (rw same at up.holds) down.holds;
          only = λ s l t.
              ⊎_elim
              (λ u. inl (up.only s l u))
              (λ u. inr (down.only s l u))
              (covered (test has_face) (test lies_above) (test lies_below) 24 (λ k. one-side (side (get_or rows k []) a b)) (omega (arith, has-two, above-one, below-one)) s l t);
        }

  -- and back
  pub paired-face : Paired rows a b → is_paired rows a b ≡ true
  unfolding is_paired
  paired-face p =
      let up : rows_with lies_above rows a b 24 ≡ 1 = counted-one 24 (test lies_above) p.one in
      let down : rows_with lies_below rows a b 24 ≡ 1 = counted-one 24 (test lies_below) p.other in
      and_both
      (eq-eqb _ 2 (omega (
        arith,
        up,
        down,
        count-least (test has_face) (test lies_above) (test lies_below) 24 (λ k. one-side (side (get_or rows k []) a b)),
        count-most (test has_face) (test lies_above) (test lies_below) 24 side-of,
      )))
      (and_both (eq-eqb _ 1 up) (eq-eqb _ 1 down))
    where
      side-of : (k : ℕ) → k < 24 → test has_face k ≡ true → (test lies_above k ≡ true) ⊎ (test lies_below k ≡ true)
      side-of k l t = ⊎_elim (λ e. inl (rw e p.one.holds)) (λ e. inr (rw e p.other.holds)) (p.only k l t)

-- ---- the faces of the rows

-- QUESTION 24: the answer is yes exactly where each face of each row has its two rows, one on each side
module _ (rows : List (List (List ℤ))) where
  abbrev row_test : ℕ → Bool
  row_test r = is_row_paired rows (get_or rows r [])

  pub all-paired : are_paired rows ≡ true → EachFace (Paired rows) rows
  unfolding are_paired is_row_paired
  all-paired e r l =
      let row : List (List ℤ) = get_or rows r [] in
      let these : is_row_paired rows row ≡ true = below_at 24 row_test e r l in
      let rest : (is_paired rows (corner row 2) (corner row 3) && is_paired rows (corner row 3) (corner row 1)) ≡ true =
      and_right (is_paired rows (corner row 1) (corner row 2)) _ these in (
        face-paired rows (corner row 1) (corner row 2) (and_left _ (is_paired rows (corner row 2) (corner row 3) && is_paired rows (corner row 3) (corner row 1)) these),
        face-paired rows (corner row 2) (corner row 3) (and_left _ (is_paired rows (corner row 3) (corner row 1)) rest),
        face-paired rows (corner row 3) (corner row 1) (and_right (is_paired rows (corner row 2) (corner row 3)) _ rest),
      )

  pub paired-all : EachFace (Paired rows) rows → are_paired rows ≡ true
  unfolding are_paired is_row_paired
  paired-all p =
      below_all 24 row_test (λ r l.
      let row : List (List ℤ) = get_or rows r [] in
      and_both
      (paired-face rows (corner row 1) (corner row 2) (p r l).0)
      (and_both (paired-face rows (corner row 2) (corner row 3) (p r l).1) (paired-face rows (corner row 3) (corner row 1) (p r l).2)))
