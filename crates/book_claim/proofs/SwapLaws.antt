-- "Sheet contents don't depend on which worker ran a piece": two lists of calls that differ in workers only. Assumes nothing.
use mathlib.Core.Path.{◌≡◌, refl, sym, ap, subst, ◌∙◌}
use mathlib.Core.Bool.{Bool, true, false, cond}
use mathlib.Core.List.{List, [], ◌∷◌, ◌++◌, map, append_assoc}
use Prim.Native.Nat.{ℕ, zero, suc}
use lib.Dec.{eqb}
use lib.IntN.{ℤ}
use lib.ListN.{length}
use lib.Signed.{mag}
use Rattle.ask.specs.Ask.{Question, asks, first_no, after_call}
use Rattle.triplet_piece.specs.Weights.{computed_weights, computed_flags}
use Rattle.triplet_study.specs.Study.{Study, sizes_of}
use Rattle.triplet_study.specs.Questions.{study_questions}
use Rattle.marks.specs.Bytes.{patch_marks}
use Rattle.marks.specs.Marks.{is_open_at, open_pieces, carried_marks, averaged_marks}
use Rattle.sheet_tally.specs.Tallies.{count_of, is_room, is_worker, tally_questions}
use Rattle.sheet_step.specs.Steps.{Sheet, Call, run, carry, average, pieces_of, piece_of, sheet_questions, piece_questions, average_questions, triplet_averaged, triplet_flags_averaged, verdict, effect, step}
use Rattle.book_claim.specs.Lists.{played, answers}
use Rattle.book_claim.specs.Workers.{SameButWorker, SameButWorkers, renamed, NoneByTally, said, SameContent}

-- ---- the verdict without 21 and 20

-- questions that end in 21 and 20, where neither is the first no
without-tally : (qs : List Question) (tally : List ℕ) (worker : ℤ) (runs : ℕ) → (first_no (qs ++ tally_questions tally worker runs) ≡ 20 → ⊥)
    → (first_no (qs ++ tally_questions tally worker runs) ≡ 21 → ⊥) → first_no (qs ++ tally_questions tally worker runs) ≡ first_no qs
unfolding first_no
without-tally [] tally worker runs h k = go (is_worker worker) (is_room (count_of tally worker) runs) h k
  where
    go : (a b : Bool) → (◌≡◌ {A = ℕ} (cond a (cond b 0 20) 21) 20 → ⊥) → (◌≡◌ {A = ℕ} (cond a (cond b 0 20) 21) 21 → ⊥) → ◌≡◌ {A = ℕ} (cond a (cond b 0 20) 21) 0
    go true true h k = refl
    go true false h k = absurd (h refl)
    go false b h k = absurd (k refl)
without-tally (asks n true ∷ qs) tally worker runs h k = without-tally qs tally worker runs h k
without-tally (asks n false ∷ qs) tally worker runs h k = refl

module _ (g : Study) where
  -- 3 to 13, then what a call asks of the sheet's content
  abbrev asked : Sheet → List Question → List Question
  asked s own = study_questions g ++ (sheet_questions (sizes_of g) (length s.weights) (length s.flags) s.marks ++ own)

  abbrev content_questions : Sheet → Call → List Question
  content_questions s (run worker t b1 b2) = piece_questions (sizes_of g) s.marks t b1 b2
  content_questions s (carry worker) = []
  content_questions s (average t ids1 ids2) = average_questions (sizes_of g) s.weights s.marks t ids1 ids2

  asked-apart : (s : Sheet) (own rest : List Question) → asked s (own ++ rest) ≡ asked s own ++ rest
  asked-apart s own rest =
      let sheets : List Question = sheet_questions (sizes_of g) (length s.weights) (length s.flags) s.marks in
      ap (λ (l : List Question). study_questions g ++ l) (sym (append_assoc sheets own rest)) ∙ sym (append_assoc (study_questions g) (sheets ++ own) rest)

  apart : (s : Sheet) (own : List Question) (worker : ℤ) (runs : ℕ) → let l = asked s (own ++ tally_questions s.tally worker runs) in
      (first_no l ≡ 20 → ⊥) → (first_no l ≡ 21 → ⊥) → first_no l ≡ first_no (asked s own)
  apart s own worker runs =
      subst (λ (l : List Question). (first_no l ≡ 20 → ⊥) → (first_no l ≡ 21 → ⊥) → first_no l ≡ first_no (asked s own))
      (sym (asked-apart s own (tally_questions s.tally worker runs))) (without-tally (asked s own) s.tally worker runs)

  by-content : (s : Sheet) (c : Call) → (verdict g s c ≡ 20 → ⊥) → (verdict g s c ≡ 21 → ⊥) → verdict g s c ≡ first_no (asked s (content_questions s c))
  unfolding verdict
  by-content s (run worker t b1 b2) h k = apart s (piece_questions (sizes_of g) s.marks t b1 b2) worker 1 h k
  by-content s (carry worker) h k = apart s [] worker (open_pieces (pieces_of (sizes_of g)) s.marks) h k
  by-content s (average t ids1 ids2) h k = refl

  -- ---- one call on two sheets with one content

  module _ (s s' : Sheet) (e : SameContent s s') where
    same_asked : (c c' : Call) → SameButWorker c c' → first_no (asked s (content_questions s c)) ≡ first_no (asked s' (content_questions s' c'))
    same_asked (run worker t b1 b2) (run worker' t' b1' b2') d = λ i. first_no (study_questions g
        ++ (sheet_questions (sizes_of g) (length (e.weights i)) (length (e.flags i)) (e.marks i) ++ piece_questions (sizes_of g) (e.marks i) (d.0 i) (d.1.0 i) (d.1.1 i)))
    same_asked (carry worker) (carry worker') d = λ i. first_no (study_questions g ++ (sheet_questions (sizes_of g) (length (e.weights i)) (length (e.flags i)) (e.marks i) ++ []))
    same_asked (average t ids1 ids2) (average t' ids1' ids2') d = λ i. first_no (study_questions g
        ++ (sheet_questions (sizes_of g) (length (e.weights i)) (length (e.flags i)) (e.marks i) ++ average_questions (sizes_of g) (e.weights i) (e.marks i) (d.0 i) (d.1.0 i) (d.1.1 i)))
    same_asked (run worker t b1 b2) (carry worker') d = absurd d
    same_asked (run worker t b1 b2) (average t' ids1 ids2) d = absurd d
    same_asked (carry worker) (run worker' t b1 b2) d = absurd d
    same_asked (carry worker) (average t ids1 ids2) d = absurd d
    same_asked (average t ids1 ids2) (run worker t' b1 b2) d = absurd d
    same_asked (average t ids1 ids2) (carry worker) d = absurd d

    same_effect : (c c' : Call) → SameButWorker c c' → SameContent (effect g s c) (effect g s' c')
    unfolding effect
    same_effect (run worker t b1 b2) (run worker' t' b1' b2') d =
        let p : piece_of (sizes_of g) t b1 b2 ≡ piece_of (sizes_of g) t' b1' b2' = λ i. piece_of (sizes_of g) (d.0 i) (d.1.0 i) (d.1.1 i) in
        record {
          weights = λ i. computed_weights g (λ n. eqb n (p i)) (e.weights i);
          flags = λ i. computed_flags g (λ n. eqb n (p i)) (e.flags i);
          marks = λ i. patch_marks (λ n. eqb n (p i)) (λ n. 1) (e.marks i);
        }
    same_effect (carry worker) (carry worker') d =
        record {
          weights = λ i. computed_weights g (is_open_at (pieces_of (sizes_of g)) (e.marks i)) (e.weights i);
          flags = λ i. computed_flags g (is_open_at (pieces_of (sizes_of g)) (e.marks i)) (e.flags i);
          marks = λ i. carried_marks (pieces_of (sizes_of g)) (e.marks i);
        }
    same_effect (average t ids1 ids2) (average t' ids1' ids2') d =
        record {
          weights = λ i. triplet_averaged (sizes_of g) (mag (d.0 i)) (d.1.0 i) (d.1.1 i) (e.weights i);
          flags = λ i. triplet_flags_averaged (sizes_of g) (mag (d.0 i)) (d.1.0 i) (d.1.1 i) (e.flags i);
          marks = λ i. averaged_marks (sizes_of g).pairs (mag (d.0 i)) (e.marks i);
        }
    same_effect (run worker t b1 b2) (carry worker') d = absurd d
    same_effect (run worker t b1 b2) (average t' ids1 ids2) d = absurd d
    same_effect (carry worker) (run worker' t b1 b2) d = absurd d
    same_effect (carry worker) (average t ids1 ids2) d = absurd d
    same_effect (average t ids1 ids2) (run worker t' b1 b2) d = absurd d
    same_effect (average t ids1 ids2) (carry worker) d = absurd d

    module _ (c c' : Call) (d : SameButWorker c c')
        (h : (verdict g s c ≡ 20 → ⊥) × (verdict g s c ≡ 21 → ⊥))
        (h' : (verdict g s' c' ≡ 20 → ⊥) × (verdict g s' c' ≡ 21 → ⊥)) where
      same-verdict : verdict g s c ≡ verdict g s' c'
      same-verdict =
          by-content s c h.0 h.1 ∙ same_asked c c' d
          ∙ sym (by-content s' c' h'.0 h'.1)

      same_step : SameContent (step g s c) (step g s' c')
      unfolding step
      same_step = rw (← same-verdict) (go (verdict g s c))
        where
          go : (n : ℕ) → SameContent (after_call n (effect g s c) s) (after_call n (effect g s' c') s')
          go zero = same_effect c c' d
          go (suc n) = e

  -- ---- a list of calls, from two sheets with one content

  pub swapped-from : (calls calls' : List Call) → SameButWorkers calls calls' → (s s' : Sheet) → SameContent s s' → NoneByTally (answers g s calls) → NoneByTally (answers g s' calls')
      → SameContent (played g s calls) (played g s' calls') × (map said (answers g s calls) ≡ map said (answers g s' calls'))
  swapped-from [] [] d s s' e h h' = (e, refl)
  swapped-from (c ∷ calls) (c' ∷ calls') d s s' e h h' =
      let rest : _ = swapped-from calls calls' d.1 (step g s c) (step g s' c') (same_step s s' e c c' d.0 h.0 h'.0) h.1 h'.1 in
      (rest.0, λ i. same-verdict s s' e c c' d.0 h.0 h'.0 i ∷ rest.1 i)
  swapped-from [] (c' ∷ calls') d s s' e h h' = absurd d
  swapped-from (c ∷ calls) [] d s s' e h h' = absurd d

-- SWAPPED WORKERS. "from one sheet a list of calls with workers swapped, none refused by 20 or 21 either way, ends in the same weights, flags
-- and marks", and each call of the one list says what its partner says. Each call's worker may be any other.
pub swapped : (g : Study) (s : Sheet) (calls calls' : List Call) → SameButWorkers calls calls' → NoneByTally (answers g s calls) → NoneByTally (answers g s calls')
    → SameContent (played g s calls) (played g s calls') × (map said (answers g s calls) ≡ map said (answers g s calls'))
swapped g s calls calls' d h h' = swapped-from g calls calls' d s s (record { weights = refl; flags = refl; marks = refl }) h h'

-- every list differs in workers only from itself with the workers renamed, so that `swapped` holds of any permutation of their names
pub renamed-same : (name : ℤ → ℤ) (calls : List Call) → SameButWorkers calls (map (renamed name) calls)
renamed-same name [] = tt
renamed-same name (run worker t b1 b2 ∷ calls) = ((refl, (refl, refl)), renamed-same name calls)
renamed-same name (carry worker ∷ calls) = (tt, renamed-same name calls)
renamed-same name (average t ids1 ids2 ∷ calls) = ((refl, (refl, refl)), renamed-same name calls)
