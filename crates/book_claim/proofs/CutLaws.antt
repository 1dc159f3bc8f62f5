-- A list cut anywhere and carried on is the list; a list of refused calls leaves the sheet; a carry-on leaves no piece open. Assumes nothing.
use mathlib.Core.Path.{◌≡◌, refl, sym, ap, subst, ◌∙◌}
use mathlib.Core.Bool.{Bool, true, false, cond}
use mathlib.Core.List.{List, [], ◌∷◌, ◌++◌}
use Prim.Native.Nat.{ℕ, zero, suc, ◌<◌}
use native.Mathlib.Omega.{arith}
use lib.Dec.{eqb}
use lib.IntN.{ℤ}
use borrow.Author.Tests.{eqb-false}
use Rattle.triplet_study.specs.Study.{Study, sizes_of}
use Rattle.marks.specs.Bytes.{mark_at}
use Rattle.marks.specs.Marks.{closed}
use Rattle.marks.proofs.BytesLaws.{place_in}
use Rattle.marks.proofs.MarkLaws.{carried-mark}
use Rattle.book_claim.proofs.AcceptedLaws.{accepted}
use Rattle.sheet_step.specs.Steps.{Answered, answered, pieces_of, Sheet, Call, carry, verdict, effect, step, step_answer}
use Rattle.sheet_step.proofs.StepLaws.{refused-sheet, done-sheet}
use Rattle.book_claim.specs.Book.{Book, turn, book_no, booked, book_answers}
use Rattle.book_claim.specs.Lists.{played, answers}
use Rattle.book_claim.specs.Counts.{AreRefused}

module _ (g : Study) where
  -- ---- "A cut leaves sheet and tally as the call before it left them"

  pub played-cut : (s : Sheet) (first rest : List Call) → played g s (first ++ rest) ≡ played g (played g s first) rest
  played-cut s [] rest = refl
  played-cut s (c ∷ first) rest = played-cut (step g s c) first rest

  pub answers-cut : (s : Sheet) (first rest : List Call) → answers g s (first ++ rest) ≡ answers g s first ++ answers g (played g s first) rest
  answers-cut s [] rest = refl
  answers-cut s (c ∷ first) rest = ap (λ (l : List Answered). step_answer g s c ∷ l) (answers-cut (step g s c) first rest)

  pub booked-cut : (start : Sheet) (b : Book) (first rest : List Call) → booked g start b (first ++ rest) ≡ booked g start (booked g start b first) rest
  booked-cut start b [] rest = refl
  booked-cut start b (c ∷ first) rest = booked-cut start (turn g start b c) first rest

  pub book-answers-cut : (start : Sheet) (b : Book) (first rest : List Call)
      → book_answers g start b (first ++ rest) ≡ book_answers g start b first ++ book_answers g start (booked g start b first) rest
  book-answers-cut start b [] rest = refl
  book-answers-cut start b (c ∷ first) rest =
      ap (λ (l : List Answered). answered (book_no g start b c) (turn g start b c).tally ∷ l) (book-answers-cut start (turn g start b c) first rest)

  -- ---- "a sheet on which every call is refused stays as it was"

  pub all-refused : (s : Sheet) (calls : List Call) → AreRefused (answers g s calls) → played g s calls ≡ s
  all-refused s [] r = refl
  all-refused s (c ∷ calls) r = go (verdict g s c) refl r (all-refused (step g s c) calls)
    where
      go : (n : ℕ) → verdict g s c ≡ n → AreRefused (answered n (step g s c).tally ∷ answers g (step g s c) calls)
          → (AreRefused (answers g (step g s c) calls) → played g (step g s c) calls ≡ step g s c) → played g (step g s c) calls ≡ s
      go zero e r later = absurd r.0
      go (suc n) e r later = later r.1 ∙ sym (refused-sheet g s c (suc n) e (λ z. omega arith))

  -- ---- "after an accepted one no 0 is left"

  closed-not-open : (m : ℕ) → closed m ≡ 0 → ⊥
  closed-not-open m = go (eqb m 0) refl
    where
      go : (u : Bool) → eqb m 0 ≡ u → cond u 1 m ≡ 0 → ⊥
      go true e z = omega arith
      go false e z = eqb-false m 0 e z

  pub none_open : (s : Sheet) (worker : ℤ) → verdict g s (carry worker) ≡ 0 → (q : ℕ) → q < pieces_of (sizes_of g) → mark_at (step g s (carry worker)).marks q ≡ 0 → ⊥
  unfolding effect
  none_open s worker e q h z =
      let read : mark_at (effect g s (carry worker)).marks q ≡ closed (mark_at s.marks q)
      = carried-mark (pieces_of (sizes_of g)) q s.marks h (place_in (pieces_of (sizes_of g)) s.marks q (accepted g s (carry worker) e).marked h) in
      closed-not-open (mark_at s.marks q) (sym read ∙ subst (λ (x : Sheet). mark_at x.marks q ≡ 0) (sym (done-sheet g s (carry worker) e)) z)
