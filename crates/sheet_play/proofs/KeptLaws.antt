-- Questions 3 to 13 keep their yes: a call keeps the lengths, and "marks 0, 1, 2, and a triplet's all 2 or none 2". Assumes nothing.
use mathlib.Core.Path.{◌≡◌, refl, sym, ◌∙◌, subst}
use mathlib.Core.Bool.{Bool, true, false, cond}
use mathlib.Core.List.{List}
use Prim.Native.Nat.{ℕ, zero, suc, ◌+◌, ◌*◌, ◌/◌, ◌≤◌, ◌<◌}
use native.Mathlib.Nat.{div-add-mod'}
use native.Mathlib.Omega.{arith}
use borrow.Author.Tests.{eqb-true, not-true}
use lib.Arith.{digits_div}
use lib.Dec.{eqb, ltb}
use lib.ListN.{length}
use lib.Signed.{mag}
use Rattle.list_laws.proofs.BoolLaws.{and_left, and_right, and_both}
use Rattle.list_laws.proofs.BelowLaws.{below_at, below_all}
use Rattle.ask.specs.Ask.{AllYes}
use Rattle.ask.proofs.AskLaws.{all_yes, none-no, group-yes}
use Rattle.triplet_piece.proofs.WeightLaws.{length-computed, length-computed-flags}
use Rattle.triplet_study.specs.Study.{Study, sizes_of}
use Rattle.triplet_study.specs.Questions.{study_questions}
use Rattle.triplet_study.proofs.StudyLaws.{study-numbered}
use Rattle.marks.specs.Bytes.{mark_at, patch_marks, places_in, Holds}
use Rattle.marks.proofs.BytesLaws.{place_in, small-mark, length-marks, mark-patch}
use Rattle.marks.proofs.MarkLaws.{alike_same, length-carried, length-averaged, carried-mark, averaged-mark}
use Rattle.marks.specs.Marks.{is_averaged_at, alike, is_mark, is_mark_beside, are_marks, is_not_averaged, closed, carried_marks, averaged_marks}
use Rattle.sheet_step.specs.Steps.{Sheet, Call, run, carry, average, pieces_of, sheet_questions, verdict, effect, step, piece_of}
use Rattle.sheet_step.proofs.StepLaws.{both_yes, refused-sheet, done-sheet}
use Rattle.sheet_average.proofs.AverageLaws.{length-average, length-average-flags}
use Rattle.book_claim.proofs.AcceptedLaws.{Accepted, accepted, counts, named, piece-in}
use Rattle.sheet_turn.specs.Turns.{common_no}

-- ---- question 13 by its two parts

same_alike : (a b : Bool) → a ≡ b → alike a b ≡ true
unfolding alike
same_alike true b e = rw (← e)
same_alike false b e = rw (← e)

-- the first place of a triplet is not beyond
first-in : (pairs q n : ℕ) → q < n → q / pairs * pairs < n
first-in pairs q n h = omega (arith, div-add-mod' q pairs)

module _ (pairs pieces : ℕ) (marks : List ℕ) where
  mark-few : are_marks pairs pieces marks ≡ true → (q : ℕ) → q < pieces → ltb (mark_at marks q) 3 ≡ true
  unfolding are_marks is_mark is_mark_beside is_averaged_at
  mark-few h q l = and_left (ltb (mark_at marks q) 3) (alike (is_averaged_at marks q) (is_averaged_at marks (q / pairs * pairs))) (below_at pieces (is_mark pairs marks) h q l)

  mark-first : are_marks pairs pieces marks ≡ true → (q : ℕ) → q < pieces → is_averaged_at marks q ≡ is_averaged_at marks (q / pairs * pairs)
  unfolding are_marks is_mark is_mark_beside is_averaged_at
  mark-first h q l =
      alike_same (is_averaged_at marks q) (is_averaged_at marks (q / pairs * pairs))
      (and_right (ltb (mark_at marks q) 3) (alike (is_averaged_at marks q) (is_averaged_at marks (q / pairs * pairs))) (below_at pieces (is_mark pairs marks) h q l))

  marks-are : ((q : ℕ) → q < pieces → ltb (mark_at marks q) 3 ≡ true) → ((q : ℕ) → q < pieces → is_averaged_at marks q ≡ is_averaged_at marks (q / pairs * pairs))
      → are_marks pairs pieces marks ≡ true
  unfolding are_marks is_mark is_mark_beside is_averaged_at
  marks-are few first =
      below_all pieces (is_mark pairs marks) (λ q l. and_both (few q l) (same_alike (is_averaged_at marks q) (is_averaged_at marks (q / pairs * pairs)) (first q l)))

-- a call that changes no mark to 2 and none from 2
same-averaged : (pairs pieces : ℕ) (m m' : List ℕ) → are_marks pairs pieces m ≡ true
    → ((q : ℕ) → q < pieces → ltb (mark_at m' q) 3 ≡ true) → ((q : ℕ) → q < pieces → is_averaged_at m' q ≡ is_averaged_at m q)
    → are_marks pairs pieces m' ≡ true
same-averaged pairs pieces m m' h few same =
    marks-are pairs pieces m' few
    (λ q l. same q l ∙ mark-first pairs pieces m h q l ∙ sym (same (q / pairs * pairs) (first-in pairs q pieces l)))

module _ (pairs pieces : ℕ) (m : List ℕ) (h : are_marks pairs pieces m ≡ true) (held : Holds pieces m) where
  on : (q : ℕ) → q < pieces → q < places_in m
  on q l = place_in pieces m q held l

  -- ---- run: the piece is of a triplet that is not averaged

  run-marks : (p : ℕ) → p < pieces → is_averaged_at m (p / pairs * pairs) ≡ false → are_marks pairs pieces (patch_marks (λ q. eqb q p) (λ q. 1) m) ≡ true
  unfolding is_averaged_at
  run-marks p l a =
      same-averaged pairs pieces m (patch_marks (λ q. eqb q p) (λ q. 1) m) h (λ q k. rw (entry q k) (few q k (eqb q p))) (λ q k. rw (entry q k) (same q k (eqb q p) refl))
    where
      entry : (q : ℕ) → q < pieces → mark_at (patch_marks (λ q. eqb q p) (λ q. 1) m) q ≡ cond (eqb q p) 1 (mark_at m q)
      entry q k = mark-patch (λ q. eqb q p) (λ q. 1) m (λ q _. small-mark 1 (omega arith)) q (on q k)

      few : (q : ℕ) → q < pieces → (u : Bool) → ltb (cond u 1 (mark_at m q)) 3 ≡ true
      few q k true = refl
      few q k false = mark-few pairs pieces m h q k

      same : (q : ℕ) → q < pieces → (u : Bool) → eqb q p ≡ u → eqb (cond u 1 (mark_at m q)) 2 ≡ eqb (mark_at m q) 2
      same q k true e = let f : q ≡ p = eqb-true q p e in rw f (sym a ∙ sym (mark-first pairs pieces m h p l))
      same q k false e = refl

  -- ---- carry on: an open piece becomes computed, and no other changes

  closed-few : (x : ℕ) → ltb x 3 ≡ true → ltb (closed x) 3 ≡ true
  closed-few x e = go (eqb x 0)
    where
      go : (u : Bool) → ltb (cond u 1 x) 3 ≡ true
      go true = refl
      go false = e

  closed-averaged : (x : ℕ) → eqb (closed x) 2 ≡ eqb x 2
  closed-averaged x = go (eqb x 0) refl
    where
      go : (u : Bool) → eqb x 0 ≡ u → eqb (cond u 1 x) 2 ≡ eqb x 2
      go true e = let z : x ≡ 0 = eqb-true x 0 e in rw z
      go false e = refl

  carry-marks : are_marks pairs pieces (carried_marks pieces m) ≡ true
  unfolding is_averaged_at
  carry-marks =
      same-averaged pairs pieces m (carried_marks pieces m) h
      (λ q k. rw (carried-mark pieces q m k (on q k)) (closed-few (mark_at m q) (mark-few pairs pieces m h q k)))
      (λ q k. rw (carried-mark pieces q m k (on q k)) (closed-averaged (mark_at m q)))

  -- ---- average: all of a triplet's become 2

  average-marks : (t : ℕ) → 1 ≤ pairs → are_marks pairs pieces (averaged_marks pairs t m) ≡ true
  unfolding is_averaged_at
  average-marks t some =
      marks-are pairs pieces (averaged_marks pairs t m) (λ q k. rw (entry q k) (few (eqb (q / pairs) t) (mark_at m q) (mark-few pairs pieces m h q k)))
      (λ q k. let f : q / pairs * pairs < pieces = first-in pairs q pieces k in
      let d : q / pairs * pairs / pairs ≡ q / pairs = whole (q / pairs) in
      rw (entry q k, entry (q / pairs * pairs) f, d) (both (eqb (q / pairs) t) (mark_at m q) (mark_at m (q / pairs * pairs)) (mark-first pairs pieces m h q k)))
    where
      entry : (q : ℕ) → q < pieces → mark_at (averaged_marks pairs t m) q ≡ cond (eqb (q / pairs) t) 2 (mark_at m q)
      entry q k = averaged-mark pairs t q m (on q k)

      few : (u : Bool) (x : ℕ) → ltb x 3 ≡ true → ltb (cond u 2 x) 3 ≡ true
      few true x e = refl
      few false x e = e

      both : (u : Bool) (x y : ℕ) → eqb x 2 ≡ eqb y 2 → eqb (cond u 2 x) 2 ≡ eqb (cond u 2 y) 2
      both true x y e = refl
      both false x y e = e

      whole : (n : ℕ) → n * pairs / pairs ≡ n
      whole n = let e : n * pairs + 0 ≡ n * pairs = omega arith in rw e at (digits_div n {m = pairs} {r = 0} some)

-- ---- every call keeps them

module _ (g : Study) (s : Sheet) where
  abbrev same-sheet : Sheet → Type 0
  same-sheet x = (length x.weights ≡ length s.weights) × ((length x.flags ≡ length s.flags) × ((length x.marks ≡ length s.marks) × (are_marks (sizes_of g).pairs (pieces_of (sizes_of g)) x.marks ≡ true)))

  effect-kept : (c : Call) → Accepted g s c → same-sheet (effect g s c)
  unfolding effect is_not_averaged
  effect-kept (run worker t b1 b2) a =
      let p : ℕ = piece_of (sizes_of g) t b1 b2 in
      let on : _ = piece-in (sizes_of g) t b1 b2 (counts a).pairs-are a.own.0 in
      let d : p / (sizes_of g).pairs ≡ mag t = digits_div (mag t) on.1 in
      (length-computed _ _ s.weights, (length-computed-flags _ _ s.flags, (length-marks _ _ s.marks, run-marks (sizes_of g).pairs (pieces_of (sizes_of g)) s.marks a.fine a.marked p (named g s worker t b1 b2 a) (rw d (not-true (is_averaged_at s.marks (mag t * (sizes_of g).pairs)) a.own.1.0)))))
  effect-kept (carry worker) a = (length-computed _ _ s.weights, (length-computed-flags _ _ s.flags, (length-carried _ s.marks, carry-marks (sizes_of g).pairs (pieces_of (sizes_of g)) s.marks a.fine a.marked)))
  effect-kept (average t ids1 ids2) a =
      (length-average _ _ ids1 ids2 s.weights, (length-average-flags _ _ ids1 ids2 s.flags, (length-averaged _ _ s.marks, average-marks (sizes_of g).pairs (pieces_of (sizes_of g)) s.marks a.fine a.marked (mag t) (counts a).pairs-some)))

  same-no : (x : Sheet) → same-sheet x → common_no g s ≡ 0 → common_no g x ≡ 0
  same-no x k e =
      let b : _ = both_yes (study_questions g) _ (study-numbered g) e in
      let y : AllYes (sheet_questions (sizes_of g) (length s.weights) (length s.flags) s.marks) = all_yes (sheet_questions (sizes_of g) (length s.weights) (length s.flags) s.marks) (omega arith, (omega arith, tt)) b.1 in
      group-yes (study_questions g) (sheet_questions (sizes_of g) (length x.weights) (length x.flags) x.marks) (study-numbered g) b.0
      ∙ none-no (sheet_questions (sizes_of g) (length x.weights) (length x.flags) x.marks) (rw (k.0, k.1.0, k.1.1.0) y.0, (k.1.1.1, tt))

  -- the yes to 3 to 13 stays
  pub common-kept : (c : Call) → common_no g s ≡ 0 → common_no g (step g s c) ≡ 0
  common-kept c e = go (verdict g s c) refl
    where
      go : (n : ℕ) → verdict g s c ≡ n → common_no g (step g s c) ≡ 0
      go zero v = subst (λ (x : Sheet). common_no g x ≡ 0) (done-sheet g s c v) (same-no (effect g s c) (effect-kept c (accepted g s c v)) e)
      go (suc n) v = subst (λ (x : Sheet). common_no g x ≡ 0) (refused-sheet g s c (suc n) v (λ z. omega arith)) e
