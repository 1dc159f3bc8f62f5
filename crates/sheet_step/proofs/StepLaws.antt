-- The verdict of a call by the groups of its questions, and what an accepted and a refused call leave. Assumes nothing.
use mathlib.Core.Path.{◌≡◌, refl, sym, ap, ◌∙◌}
use mathlib.Core.Bool.{true, false, ◌&&◌}
use mathlib.Core.List.{List, [], ◌∷◌, ◌++◌, append_assoc}
use Prim.Native.Nat.{ℕ, ◌*◌, ◌<◌, ◌≤◌}
use native.Mathlib.Omega.{arith}
use borrow.Author.Tests.{eqb-true}
use lib.Dec.{eqb}
use lib.Ieee.{Float}
use lib.IntN.{ℤ}
use lib.ListN.{length}
use lib.Signed.{mag}
use Rattle.list_laws.specs.Signed.{is_below}
use Rattle.list_laws.proofs.BoolLaws.{and_left, and_right}
use Rattle.list_laws.proofs.SignedLaws.{below-lt}
use Rattle.ask.specs.Ask.{Question, asks, first_no, AllYes, Numbered}
use Rattle.question_values.specs.Averages.{are_degenerate_ids}
use Rattle.question_values.proofs.AverageLaws.{ids-length}
use Rattle.ask.proofs.AskLaws.{group-no, group-yes, all_yes, after-done, after-refused}
use Rattle.triplet_study.specs.declared.Sizes.{Sizes}
use Rattle.triplet_study.specs.Study.{Study, sizes_of}
use Rattle.triplet_study.specs.Questions.{study_questions, are_lengths}
use Rattle.triplet_study.specs.Tested.{Counted, Ready}
use Rattle.triplet_study.proofs.StudyLaws.{study-numbered, lengths-say, tested, counted, ready}
use Rattle.marks.specs.Bytes.{bytes_for, Holds}
use Rattle.std.specs.declared.result.Result.{Result}
use Rattle.std.specs.declared.result.Result.TheVariants.{Ok, Err}
use Rattle.ask.specs.Refusals.{answer_of, number_of}
use Rattle.ask.specs.declared.refusal.Refusal.{Refusal}
use Rattle.ask.proofs.RefusalLaws.{done-is, first-low, number-is, refused-is, refused-not}
use Rattle.sheet_tally.specs.declared.Tally.{Tally}
use Rattle.sheet_tally.specs.Tallies.{tally_questions}
use Rattle.sheet_step.specs.Steps.{Sheet, sheet, Call, run, carry, average, call_questions, Called, Did, pieces_of, common_questions, are_sheet_lengths, is_piece, are_id_lists, sheet_questions, piece_questions, average_questions, own_questions, verdict, effect, step}
use Rattle.sheet_step.proofs.CountLaws.{marks-held}

-- a yes to all is a yes to each group
pub both_yes : (qs rest : List Question) → Numbered qs → first_no (qs ++ rest) ≡ 0 → (first_no qs ≡ 0) × (first_no rest ≡ 0)
unfolding first_no
both_yes [] rest h e = (refl, e)
both_yes (asks n true ∷ qs) rest h e = both_yes qs rest h.1 e
both_yes (asks n false ∷ qs) rest h e = absurd (omega (arith, h.0))

-- the questions that every call asks, once those on the study say yes
pub common-no : (g : Study) (w f : ℕ) (m : List ℕ) {z : Sizes} → z ≡ sizes_of g → first_no (study_questions g) ≡ 0
    → first_no (common_questions g w f m) ≡ first_no (sheet_questions z w f m)
common-no g w f m ez y =
    group-yes (study_questions g) (sheet_questions (sizes_of g) w f m) (study-numbered g) y ∙ sym (ap (λ (x : Sizes). first_no (sheet_questions x w f m)) ez)

-- question 12's yes
pub sheet-lengths : (z : Sizes) (w f m : ℕ) → are_sheet_lengths z w f m ≡ true → (w ≡ z.channels * z.cells) × ((f ≡ z.cells) × (m ≡ bytes_for (pieces_of z)))
unfolding are_sheet_lengths
sheet-lengths z w f m e =
    let l : _ = lengths-say z w f (and_left (are_lengths z w f) (eqb m (bytes_for (pieces_of z))) e) in
    (l.0, (l.1, eqb-true m (bytes_for (pieces_of z)) (and_right (are_lengths z w f) (eqb m (bytes_for (pieces_of z))) e)))

module _ (g : Study) (s : Sheet) where
  -- the questions that every call asks
  abbrev pub common_of : List Question
  common_of = common_questions g (length s.weights) (length s.flags) s.marks

  sheet-numbered : Numbered (sheet_questions (sizes_of g) (length s.weights) (length s.flags) s.marks)
  sheet-numbered = (omega arith, (omega arith, tt))

  pub study-yes : first_no common_of ≡ 0 → first_no (study_questions g) ≡ 0
  study-yes e = (both_yes (study_questions g) _ (study-numbered g) e).0

  sheet-yes : first_no common_of ≡ 0 → first_no (sheet_questions (sizes_of g) (length s.weights) (length s.flags) s.marks) ≡ 0
  sheet-yes e = (both_yes (study_questions g) _ (study-numbered g) e).1

  pub counts-yes : first_no common_of ≡ 0 → Counted (sizes_of g)
  counts-yes e = counted (tested g (study-yes e))

  -- question 12's yes, after those on the study
  long-yes : first_no common_of ≡ 0 → are_sheet_lengths (sizes_of g) (length s.weights) (length s.flags) (length s.marks) ≡ true
  long-yes e =
      let y : AllYes (sheet_questions (sizes_of g) (length s.weights) (length s.flags) s.marks) = all_yes (sheet_questions (sizes_of g) (length s.weights) (length s.flags) s.marks) sheet-numbered (sheet-yes e) in
      y.0

  pub lengths-yes : first_no common_of ≡ 0
      → (length s.weights ≡ (sizes_of g).channels * (sizes_of g).cells) × ((length s.flags ≡ (sizes_of g).cells) × Holds (pieces_of (sizes_of g)) s.marks)
  lengths-yes e =
      let l : _ = sheet-lengths (sizes_of g) (length s.weights) (length s.flags) (length s.marks) (long-yes e) in
      (l.0, (l.1.0, marks-held (sizes_of g) (counts-yes e) s.marks l.1.1))

  -- the study is ready for the sheet
  pub ready-yes : first_no common_of ≡ 0 → Ready g (sizes_of g) (length s.weights) (length s.flags)
  unfolding are_sheet_lengths
  ready-yes e =
      ready g (sizes_of g) (length s.weights) (length s.flags) (study-yes e) refl
      (and_left (are_lengths (sizes_of g) (length s.weights) (length s.flags)) (eqb (length s.marks) (bytes_for (pieces_of (sizes_of g)))) (long-yes e))

module _ (g : Study) (s : Sheet) (c : Call) where
  -- ---- the verdict by the groups

  pub verdict-common : (first_no (common_of g s) ≡ 0 → ⊥) → verdict g s c ≡ first_no (common_of g s)
  unfolding verdict
  verdict-common h =
      ap first_no (sym (append_assoc (study_questions g) (sheet_questions (sizes_of g) (length s.weights) (length s.flags) s.marks) (own_questions g s c)))
      ∙ group-no (common_of g s) (own_questions g s c) h

  pub verdict-own : first_no (common_of g s) ≡ 0 → verdict g s c ≡ first_no (own_questions g s c)
  unfolding verdict
  verdict-own e =
      group-yes (study_questions g) _ (study-numbered g) (study-yes g s e)
      ∙ group-yes (sheet_questions (sizes_of g) (length s.weights) (length s.flags) s.marks) (own_questions g s c) (sheet-numbered g s) (sheet-yes g s e)

  -- ---- a refused call

  pub refused-sheet : (n : ℕ) → verdict g s c ≡ n → (n ≡ 0 → ⊥) → s ≡ step g s c
  unfolding step
  refused-sheet n e h = after-refused (verdict g s c) (effect g s c) s (λ z. h (sym e ∙ z))

  -- what a call did that is refused by questions which decide it
  pub refused-did : (n : ℕ) (why : Refusal) → ◌≡◌ {A = Result (Unit {0}) Refusal} (Err why) (answer_of n tt) → verdict g s c ≡ n → Did g s c (Err why) s
  refused-did n why e h = record {
    answers = refused-is n (verdict g s c) why tt _ e h;
    leaves = refused-sheet n h (refused-not n why tt e);
  }

  -- a call that one of 3 to 13 refuses
  pub common-refused : (why : Refusal) → ◌≡◌ {A = Result (Unit {0}) Refusal} (Err why) (answer_of (first_no (common_of g s)) tt) → Did g s c (Err why) s
  common-refused why e = refused-did (first_no (common_of g s)) why e (verdict-common (refused-not (first_no (common_of g s)) why tt e))

  -- ---- an accepted call

  pub done-sheet : verdict g s c ≡ 0 → effect g s c ≡ step g s c
  unfolding step
  done-sheet e = after-done (verdict g s c) (effect g s c) s e

  -- what it did, by the sheet that it left
  pub done-did : (t : Tally) (w : List Float) (f : List ℤ) (m : List ℕ) → Called g s c 0 (sheet w f m t.runs) → Did g s c (Ok t) (sheet w f m t.runs)
  done-did t w f m d =
      let given : Sheet → Result Tally Refusal = λ x. Ok (record { runs = x.tally }) in
      record { answers = ap given d.leaves ∙ done-is (verdict g s c) _ (sym d.says); leaves = d.leaves }

-- ---- the number of a call's answer

pub verdict-low : (g : Study) (s : Sheet) (c : Call) → verdict g s c ≤ 25
unfolding verdict
verdict-low g s (run worker t b1 b2) = first-low (call_questions g s (run worker t b1 b2)) refl
verdict-low g s (carry worker) = first-low (call_questions g s (carry worker)) refl
verdict-low g s (average t ids1 ids2) = first-low (call_questions g s (average t ids1 ids2)) refl

-- what a call came to, by what it did
pub called : {g : Study} {s : Sheet} {c : Call} {a : Result Tally Refusal} {left : Sheet} → Did g s c a left → Called g s c (number_of a) left
called {g} {s} {c} d = record { says = ap number_of d.answers ∙ number-is (verdict g s c) _ (verdict-low g s c); leaves = d.leaves }

-- ---- what 14 says of a named piece, and 14 to 19 of an averaging

-- question 14's yes
pub piece-on : (z : Sizes) (t b1 b2 : ℤ) → is_piece z t b1 b2 ≡ true → (mag t < z.triplets) × ((mag b1 < z.bands1) × (mag b2 < z.bands2))
unfolding is_piece
piece-on z t b1 b2 e =
    let a : (is_below t z.triplets && is_below b1 z.bands1) ≡ true = and_left (is_below t z.triplets && is_below b1 z.bands1) (is_below b2 z.bands2) e in (
      below-lt t z.triplets (and_left (is_below t z.triplets) (is_below b1 z.bands1) a),
      (
        below-lt b1 z.bands1 (and_right (is_below t z.triplets) (is_below b1 z.bands1) a),
        below-lt b2 z.bands2 (and_right (is_below t z.triplets && is_below b1 z.bands1) (is_below b2 z.bands2) e),
      ),
    )

module _ (z : Sizes) (marks : List ℕ) (t b1 b2 : ℤ) where
  piece-numbered : Numbered (piece_questions z marks t b1 b2)
  piece-numbered = (omega arith, (omega arith, tt))

  piece-named : first_no (piece_questions z marks t b1 b2) ≡ 0 → (mag t < z.triplets) × ((mag b1 < z.bands1) × (mag b2 < z.bands2))
  piece-named e =
      let y : AllYes (piece_questions z marks t b1 b2) = all_yes (piece_questions z marks t b1 b2) piece-numbered e in
      piece-on z t b1 b2 y.0

  -- 14 and 15, then 21 and 20
  module _ (tally : List ℕ) (worker : ℤ) where
    pub run-no : {n : ℕ} → n ≡ first_no (piece_questions z marks t b1 b2) → (n ≡ 0 → ⊥) → n ≡ first_no (piece_questions z marks t b1 b2 ++ tally_questions tally worker 1)
    run-no e h = e ∙ sym (group-no (piece_questions z marks t b1 b2) (tally_questions tally worker 1) (λ k. h (e ∙ k)))

    pub run_room : {m n : ℕ} → m ≡ first_no (piece_questions z marks t b1 b2) → m ≡ 0 → n ≡ first_no (tally_questions tally worker 1) → n ≡ first_no (piece_questions z marks t b1 b2 ++ tally_questions tally worker 1)
    run_room e h f = f ∙ sym (group-yes (piece_questions z marks t b1 b2) (tally_questions tally worker 1) piece-numbered (sym e ∙ h))

    -- the yes to all four
    pub run-yes : first_no (piece_questions z marks t b1 b2 ++ tally_questions tally worker 1) ≡ 0
        → ((mag t < z.triplets) × ((mag b1 < z.bands1) × (mag b2 < z.bands2))) × (first_no (tally_questions tally worker 1) ≡ 0)
    run-yes e =
        let b : _ = both_yes (piece_questions z marks t b1 b2) (tally_questions tally worker 1) piece-numbered e in
        (piece-named b.0, b.1)

module _ (z : Sizes) (weights : List Float) (marks : List ℕ) (t : ℤ) (ids1 ids2 : List ℤ) where
  pub average-named : first_no (average_questions z weights marks t ids1 ids2) ≡ 0
      → (mag t < z.triplets) × ((z.bands1 ≡ z.bands2) × ((length ids1 ≡ z.bands1) × (length ids2 ≡ z.bands1)))
  unfolding are_id_lists
  average-named e =
      let y : AllYes (average_questions z weights marks t ids1 ids2) = all_yes (average_questions z weights marks t ids1 ids2) (omega arith, (omega arith, (omega arith, (omega arith, (omega arith, (omega arith, tt)))))) e in (
        below-lt t z.triplets y.0,
        (
          eqb-true z.bands1 z.bands2 y.1.1.0,
          (
            ids-length z.bands1 ids1 (and_left (are_degenerate_ids z.bands1 ids1) (are_degenerate_ids z.bands1 ids2) y.1.1.1.0),
            ids-length z.bands1 ids2 (and_right (are_degenerate_ids z.bands1 ids1) (are_degenerate_ids z.bands1 ids2) y.1.1.1.0),
          ),
        ),
      )

-- by one name, for the attributes of functions
pub ruleset piece_laws = (piece-on)

pub ruleset below_laws = (below-lt)
