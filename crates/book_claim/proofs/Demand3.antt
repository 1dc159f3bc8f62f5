-- Demand 3: after every list of calls the sheet, the tally and the answers are the book's. Assumes nothing.
use mathlib.Core.Path.{◌≡◌, refl, sym, ap, ap₂, ◌∙◌}
use mathlib.Core.List.{List, [], ◌∷◌}
use Prim.Native.Nat.{ℕ, zero, suc, ◌%◌}
use lib.ListN.{length, get_or, replicate, length-replicate}
use Rattle.list_laws.proofs.MapLaws.{get_d_replicate}
use Rattle.book_claim.proofs.MarkWords.{opened-marks}
use Rattle.book_claim.proofs.TurnLaws.{turn-long}
use Rattle.ask.specs.Ask.{after_call}
use Rattle.triplet_piece.specs.Layout.{piece_at}
use Rattle.triplet_study.specs.Study.{Study, sizes_of}
use Rattle.sheet_step.specs.Steps.{Answered, answered, Sheet, Call, run, carry, average, pieces_of, verdict, effect, step, step_answer}
use Rattle.book_claim.specs.Book.{fresh, Book, marks_of, weight_by, flag_by, word_of_weight, word_of_flag, render, writes, book_no, turn, opened, booked, book_answers}
use Rattle.book_claim.specs.Lists.{played, answers}
use Rattle.book_claim.proofs.EntryLaws.{each_none}
use Rattle.book_claim.proofs.AcceptedLaws.{Accepted, accepted}
use Rattle.book_claim.proofs.RunLaws.{sheet-same, run-same, carry_same}
use Rattle.book_claim.proofs.AverageLaws.{average-same}

module _ (g : Study) (start : Sheet) where
  -- one accepted call on the sheet that a book stands for
  same_effect : (b : Book) → length b.words ≡ pieces_of (sizes_of g) → (c : Call) → Accepted g (render g start b) c → effect g (render g start b) c ≡ render g start (writes g b c)
  same_effect b long (run worker t b1 b2) a = run-same g start b long worker t b1 b2 a
  same_effect b long (carry worker) a = carry_same g start b long worker a
  same_effect b long (average t ids1 ids2) a = average-same g start b long t ids1 ids2 a

  -- one call on it: the step, and the book's turn
  pub same_step : (b : Book) → length b.words ≡ pieces_of (sizes_of g) → (c : Call) → step g (render g start b) c ≡ render g start (turn g start b c)
  unfolding step turn book_no
  same_step b long c = go (verdict g (render g start b) c) refl
    where
      go : (n : ℕ) → verdict g (render g start b) c ≡ n → after_call n (effect g (render g start b) c) (render g start b) ≡ render g start (after_call n (writes g b c) b)
      go zero e = same_effect b long c (accepted g (render g start b) c e)
      go (suc n) e = refl

  same_answer : (b : Book) → length b.words ≡ pieces_of (sizes_of g) → (c : Call) → step_answer g (render g start b) c ≡ answered (book_no g start b c) (turn g start b c).tally
  unfolding book_no render
  same_answer b long c = ap (λ (s : Sheet). answered (verdict g (render g start b) c) s.tally) (same_step b long c)

  -- ---- a list of calls, from any book

  pub all-sheets : (calls : List Call) (b : Book) → length b.words ≡ pieces_of (sizes_of g) → (s : Sheet) → s ≡ render g start b → played g s calls ≡ render g start (booked g start b calls)
  all-sheets [] b long s e = e
  all-sheets (c ∷ calls) b long s e = all-sheets calls (turn g start b c) (turn-long g start b c ∙ long) (step g s c) (rw e (same_step b long c))

  pub all-answers : (calls : List Call) (b : Book) → length b.words ≡ pieces_of (sizes_of g) → (s : Sheet) → s ≡ render g start b → answers g s calls ≡ book_answers g start b calls
  all-answers [] b long s e = refl
  all-answers (c ∷ calls) b long s e =
      ap₂ (λ (a : Answered) (rest : List Answered). a ∷ rest) (rw e (same_answer b long c)) (all-answers calls (turn g start b c) (turn-long g start b c ∙ long) (step g s c) (rw e (same_step b long c)))

  pub opened-long : length (opened g start).words ≡ pieces_of (sizes_of g)
  unfolding opened
  opened-long = length-replicate (pieces_of (sizes_of g)) fresh

  -- the book of the start stands for the start, where no piece is marked
  pub opened-is : start.marks ≡ replicate (length start.marks) 0 → start ≡ render g start (opened g start)
  unfolding render opened weight_by flag_by
  opened-is e =
      sheet-same (sym (each_none (λ i old. weight_by g (word_of_weight g (opened g start) i) i old) start.weights (λ i x. rw (fresh_at (piece_at (sizes_of g).points (sizes_of g).pairs (i % (sizes_of g).cells))))))
      (sym (each_none (λ j old. flag_by g (word_of_flag g (opened g start) j) j old) start.flags (λ j x. rw (fresh_at (piece_at (sizes_of g).points (sizes_of g).pairs j)))))
      (e ∙ sym (opened-marks (pieces_of (sizes_of g)) (length start.marks)) ∙ ap (marks_of (pieces_of (sizes_of g)) (replicate (pieces_of (sizes_of g)) fresh)) (sym e)) refl
    where
      fresh_at : (q : ℕ) → get_or (replicate (pieces_of (sizes_of g)) fresh) q fresh ≡ fresh
      fresh_at q = get_d_replicate (pieces_of (sizes_of g)) q fresh

-- DEMAND 3. For every study, every start on which no piece is marked, with any lengths, any old content and any tally, and every list of
-- calls: weights, flags, marks and tally afterwards, and each call's answer, are the book's.
pub demand-3 : (g : Study) (start : Sheet) → start.marks ≡ replicate (length start.marks) 0 → (calls : List Call)
    → (played g start calls ≡ render g start (booked g start (opened g start) calls)) × (answers g start calls ≡ book_answers g start (opened g start) calls)
demand-3 g start e calls =
    (all-sheets g start calls (opened g start) (opened-long g start) start (opened-is g start e), all-answers g start calls (opened g start) (opened-long g start) start (opened-is g start e))
