-- "Accepted" in the readers' statements is the program's own answer: a call is accepted by the book exactly where its entry answers that it is done. Assumes nothing.
use mathlib.Core.Path.{◌≡◌, refl, sym, ap, ap₂, ◌∙◌}
use mathlib.Core.Bool.{Bool, false, ◌||◌, cond}
use mathlib.Core.List.{List, [], ◌∷◌, ◌++◌}
use Prim.Native.Nat.{ℕ, zero, suc, ◌+◌, ◌<◌}
use native.Mathlib.Omega.{arith}
use lib.Dec.{eqb}
use lib.ListN.{length, get_or, replicate}
use borrow.Author.Tests.{ne_eqb}
use Rattle.list_laws.specs.Lists.{one_if}
use Rattle.ask.specs.Ask.{after_call}
use Rattle.triplet_study.specs.Study.{Study, sizes_of}
use Rattle.list_laws.specs.Signed.{is_nat}
use Rattle.marks.specs.Marks.{is_open_mark}
use Rattle.marks.proofs.MarkLaws.{open_at}
use Rattle.sheet_step.specs.Steps.{Answered, Sheet, Call, run, carry, average, pieces_of, step, step_answer}
use Rattle.book_claim.specs.Book.{word_at, Book, render, book_no, turn, opened, booked}
use Rattle.book_claim.specs.Lists.{played, answers}
use Rattle.book_claim.specs.Counts.{runs_of, runs_accepted, runs_piece, has_run, averages, averagings}
use Rattle.book_claim.specs.Done.{is_done, runs_on, runs_done, runs_piece_on, ran_done, averagings_done}
use Rattle.book_claim.proofs.TurnLaws.{On, turn-long, yes}
use Rattle.book_claim.proofs.MarkWords.{open-mark, mark-word}
use Rattle.book_claim.proofs.RunLaws.{mark_on, open-runs}
use Rattle.book_claim.proofs.Demand3.{same_step, opened-long, opened-is}
use Rattle.book_claim.proofs.Corollaries.{is-book, tally-is}

done-or : {A : Type 0} (n : ℕ) (x y : A) → cond (is_done n) x y ≡ after_call n x y
done-or zero x y = refl
done-or (suc n) x y = refl

done-zero : (n : ℕ) → is_done n ≡ eqb n 0
done-zero zero = refl
done-zero (suc n) = sym (ne_eqb (suc n) 0 (λ e. omega arith))

or_same : {a b c d : Bool} → a ≡ b → c ≡ d → (a || c) ≡ (b || d)
or_same e f = rw (e, f)

module _ (g : Study) (start : Sheet) where
  -- ---- one call on the sheet that a book stands for

  -- what counts where the answer is done counts where the book accepts
  counted : {A : Type 0} (b : Book) (c : Call) (x y z : A) → (book_no g start b c ≡ 0 → x ≡ y) → cond (is_done (step_answer g (render g start b) c).number) x z ≡ after_call (book_no g start b c) y z
  unfolding book_no
  counted {A} b c x y z e = done-or (book_no g start b c) x z ∙ go (book_no g start b c) e
    where
      go : (n : ℕ) → (n ≡ 0 → x ≡ y) → after_call n x z ≡ after_call n y z
      go zero e = e refl
      go (suc n) e = refl

  same_runs : (b : Book) (w : ℕ) (c : Call) → length b.words ≡ pieces_of (sizes_of g) → book_no g start b c ≡ 0 → runs_on g (render g start b) w c ≡ runs_of b w c
  same_runs b w (run worker t b1 b2) long z = refl
  same_runs b w (carry worker) long z = ap (λ (n : ℕ). cond (is_nat worker w) n 0) (open-runs g start b long worker (yes g start b (carry worker) z))
  same_runs b w (average t ids1 ids2) long z = refl

  same-piece : (b : Book) (q : ℕ) (c : Call) → On g start b q → book_no g start b c ≡ 0 → runs_piece_on g (render g start b) q c ≡ runs_piece g b q c
  unfolding render is_open_mark
  same-piece b q (run worker t b1 b2) h z = refl
  same-piece b q (carry worker) h z =
      open_at (pieces_of (sizes_of g)) q (render g start b).marks h.1
      ∙ ap (λ (m : ℕ). eqb m 0) (mark-word (pieces_of (sizes_of g)) b.words start.marks q h.1 (mark_on g start b (carry worker) (yes g start b (carry worker) z) q h.1))
      ∙ open-mark (word_at b q)
  same-piece b q (average t ids1 ids2) h z = refl

  -- ---- a list of calls, from any book

  runs-along : (w : ℕ) (calls : List Call) (b : Book) → length b.words ≡ pieces_of (sizes_of g) → (s : Sheet) → s ≡ render g start b → runs_done g s w calls ≡ runs_accepted g start b w calls
  runs-along w [] b long s e = refl
  runs-along w (c ∷ calls) b long s e =
      ap₂ (λ (m n : ℕ). m + n) (rw e (counted b c (runs_on g (render g start b) w c) (runs_of b w c) 0 (same_runs b w c long)))
      (runs-along w calls (turn g start b c) (turn-long g start b c ∙ long) (step g s c) (rw e (same_step g start b long c)))

  ran-along : (q : ℕ) (calls : List Call) (b : Book) (s : Sheet) → s ≡ render g start b → On g start b q → ran_done g s q calls ≡ has_run g start b q calls
  ran-along q [] b s e h = refl
  ran-along q (c ∷ calls) b s e h =
      let first : cond (is_done (step_answer g s c).number) (runs_piece_on g s q c) false ≡ after_call (book_no g start b c) (runs_piece g b q c) false
      = rw e (counted b c (runs_piece_on g (render g start b) q c) (runs_piece g b q c) false (same-piece b q c h)) in
      or_same first
      (ran-along q calls (turn g start b c) (step g s c) (rw e (same_step g start b h.0 c)) (turn-long g start b c ∙ h.0, h.1))

  averagings-along : (t : ℕ) (calls : List Call) (b : Book) → length b.words ≡ pieces_of (sizes_of g) → (s : Sheet) → s ≡ render g start b → averagings_done g s t calls ≡ averagings g start b t calls
  averagings-along t [] b long s e = refl
  averagings-along t (c ∷ calls) b long s e =
      ap₂ (λ (m n : ℕ). m + n) (rw e (counted b c (one_if (averages t c)) (one_if (averages t c)) 0 (λ _. refl)))
      (averagings-along t calls (turn g start b c) (turn-long g start b c ∙ long) (step g s c) (rw e (same_step g start b long c)))

-- the answer to a call of a list is that of its entry on the sheet that the calls before it left
pub answer_at : (g : Study) (s : Sheet) (before : List Call) (c : Call) (after : List Call) (d : Answered)
    → get_or (answers g s (before ++ (c ∷ after))) (length before) d ≡ step_answer g (played g s before) c
answer_at g s [] c after d = refl
answer_at g s (x ∷ before) c after d = answer_at g (step g s x) before c after d

-- a start on which no piece is marked, any content, any tally; and any list of calls
module _ (g : Study) (start : Sheet) (unmarked : start.marks ≡ replicate (length start.marks) 0) (calls : List Call) where
  -- a call after the list is answered as done exactly where the book accepts it
  pub accepted-done : (c : Call) → is_done (step_answer g (played g start calls) c).number ≡ eqb (book_no g start (booked g start (opened g start) calls) c) 0
  unfolding book_no
  accepted-done c = rw (is-book g start unmarked calls) (done-zero (book_no g start (booked g start (opened g start) calls) c))

  -- a worker's accepted runs are those answered as done, "repeats included"
  pub runs_done_lem : (w : ℕ) → runs_accepted g start (opened g start) w calls ≡ runs_done g start w calls
  runs_done_lem w = sym (runs-along g start w calls (opened g start) (opened-long g start) start (opened-is g start unmarked))

  -- and by so many its count has grown
  pub tally-done : (w : ℕ) → w < length start.tally → get_or (played g start calls).tally w 0 ≡ get_or start.tally w 0 + runs_done g start w calls
  tally-done w h = rw (← runs_done_lem w) (tally-is g start unmarked calls w h)

  -- a piece has run where a call answered as done has run it
  pub ran-done : (q : ℕ) → q < pieces_of (sizes_of g) → has_run g start (opened g start) q calls ≡ ran_done g start q calls
  ran-done q h = sym (ran-along g start q calls (opened g start) start (opened-is g start unmarked) (opened-long g start, h))

  -- the accepted averagings of a triplet are those answered as done
  pub averagings-done : (t : ℕ) → averagings g start (opened g start) t calls ≡ averagings_done g start t calls
  averagings-done t = sym (averagings-along g start t calls (opened g start) (opened-long g start) start (opened-is g start unmarked))
