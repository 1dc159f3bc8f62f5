-- What a call's answer says of its questions, and that an averaged triplet is refused with 15. Assumes nothing.
use mathlib.Core.Path.{◌≡◌, sym, ap, ◌∙◌}
use mathlib.Core.Bool.{true, false, not}
use mathlib.Core.List.{List, ◌++◌}
use Prim.Native.Nat.{ℕ, ◌*◌, ◌<◌}
use lib.IntN.{ℤ}
use lib.ListN.{length}
use lib.Signed.{mag}
use Rattle.list_laws.specs.Signed.{is_below}
use Rattle.list_laws.proofs.BoolLaws.{clash}
use Rattle.ask.specs.Ask.{first_no, AllYes}
use Rattle.ask.proofs.AskLaws.{all_yes, none-no, FirstNo, first-no, is-first, group-yes}
use Rattle.triplet_study.specs.Study.{Study, sizes_of}
use Rattle.triplet_study.specs.Questions.{study_questions}
use Rattle.triplet_study.proofs.StudyLaws.{study-numbered}
use Rattle.marks.specs.Marks.{is_averaged_at, are_marks, is_not_averaged}
use Rattle.sheet_step.specs.Steps.{pieces_of, Sheet, Call, run, average, are_sheet_lengths, is_piece, sheet_questions, own_questions, call_questions, verdict}
use Rattle.book_claim.proofs.AcceptedLaws.{accepted, call-numbered}

module _ (g : Study) (s : Sheet) (c : Call) where
  -- ---- accepted exactly when every question of the call says yes

  pub accepted-yes : verdict g s c ≡ 0 → AllYes (call_questions g s c)
  unfolding verdict
  accepted-yes e = all_yes (call_questions g s c) (call-numbered g s c) e

  pub yes-accepted : AllYes (call_questions g s c) → verdict g s c ≡ 0
  unfolding verdict
  yes-accepted y = none-no (call_questions g s c) y

  -- ---- refused with n exactly when n is the first that says no

  pub refused-first : (n : ℕ) → 0 < n → verdict g s c ≡ n → FirstNo n (call_questions g s c)
  unfolding verdict
  refused-first n h e = is-first n (call_questions g s c) h e

  pub first-refused : (n : ℕ) → FirstNo n (call_questions g s c) → verdict g s c ≡ n
  unfolding verdict
  first-refused n f = ap first_no f.parts ∙ first-no n f.before f.after f.yes-before

-- ---- a triplet whose first mark is 2: no run of a piece of it and no averaging of it is accepted

module _ (g : Study) (s : Sheet) (t : ℤ) (averaged : is_averaged_at s.marks (mag t * (sizes_of g).pairs) ≡ true) where
  fifteen : is_not_averaged (sizes_of g).pairs s.marks (mag t) ≡ false
  unfolding is_not_averaged
  fifteen = ap not averaged

  pub no-average : (ids1 ids2 : List ℤ) → verdict g s (average t ids1 ids2) ≡ 0 → ⊥
  no-average ids1 ids2 e = clash (sym fifteen ∙ (accepted g s (average t ids1 ids2) e).own.1.0)

  pub no_run : (worker b1 b2 : ℤ) → verdict g s (run worker t b1 b2) ≡ 0 → ⊥
  no_run worker b1 b2 e = clash (sym fifteen ∙ (accepted g s (run worker t b1 b2) e).own.1.0)

-- ---- and where the questions before say yes, both are refused with 15

module _ (g : Study) (s : Sheet) (t : ℤ) (study : first_no (study_questions g) ≡ 0)
    (lengths : are_sheet_lengths (sizes_of g) (length s.weights) (length s.flags) (length s.marks) ≡ true)
    (marks : are_marks (sizes_of g).pairs (pieces_of (sizes_of g)) s.marks ≡ true)
    (averaged : is_averaged_at s.marks (mag t * (sizes_of g).pairs) ≡ true) where
  pub averaged-average : (ids1 ids2 : List ℤ) → is_below t (sizes_of g).triplets ≡ true → verdict g s (average t ids1 ids2) ≡ 15
  unfolding verdict first_no
  averaged-average ids1 ids2 on =
      group-yes (study_questions g) (sheet_questions (sizes_of g) (length s.weights) (length s.flags) s.marks ++ own_questions g s (average t ids1 ids2)) (study-numbered g) study
      ∙ rw (lengths, marks, on, fifteen g s t averaged)

  pub averaged-run : (worker b1 b2 : ℤ) → is_piece (sizes_of g) t b1 b2 ≡ true → verdict g s (run worker t b1 b2) ≡ 15
  unfolding verdict first_no
  averaged-run worker b1 b2 on =
      group-yes (study_questions g) (sheet_questions (sizes_of g) (length s.weights) (length s.flags) s.marks ++ own_questions g s (run worker t b1 b2)) (study-numbered g) study
      ∙ rw (lengths, marks, on, fifteen g s t averaged)
