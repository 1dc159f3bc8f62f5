-- Demand 3 for readers: what a sheet holds after a list of calls. Assumes nothing.
use mathlib.Core.Path.{◌≡◌, sym, ap, subst, ◌∙◌}
use mathlib.Core.Bool.{true, false}
use mathlib.Core.List.{List, [], ◌∷◌, ◌++◌}
use Prim.Native.Nat.{ℕ, ◌+◌, ◌/◌, ◌<◌}
use lib.Ieee.{Float}
use lib.IntN.{ℤ}
use lib.ListN.{length, get_or, replicate}
use Rattle.marks.specs.Bytes.{mark_at, places_in}
use Rattle.book_claim.proofs.MarkWords.{unmarked-word}
use Rattle.triplet_piece.specs.Weights.{weight_at, flag_at}
use Rattle.triplet_study.specs.Study.{Study, sizes_of}
use Rattle.sheet_step.specs.Steps.{Sheet, Call, carry, pieces_of, averaged_at, averaged_flag_at, verdict}
use Rattle.book_claim.specs.Book.{piece_of_weight, piece_of_flag, word_at, Word, Book, mark_of, computed_row, computed_flag_row, weight_by, flag_by, word_of_weight, word_of_flag, render, opened, booked, book_answers}
use Rattle.book_claim.specs.Lists.{played, answers}
use Rattle.book_claim.specs.Counts.{runs_accepted, has_run, averagings, AveragedBy, AreRefused}
use Rattle.book_claim.proofs.EntryLaws.{get_or-each}
use Rattle.book_claim.proofs.RunLaws.{weights-long, flags_long, marks-long}
use Rattle.book_claim.proofs.Demand3.{demand-3}
use Rattle.book_claim.proofs.AlongLaws.{tally-along}
use Rattle.book_claim.proofs.CutLaws.{played-cut, answers-cut, all-refused, none_open}
use Rattle.book_claim.proofs.Words.{words_long, never-ran, ran, averaged, ran-placed, averaged-placed}

-- a start on which no piece is marked, any content, any tally; and any list of calls
module _ (g : Study) (start : Sheet) (unmarked : start.marks ≡ replicate (length start.marks) 0) (calls : List Call) where
  pub is-book : played g start calls ≡ render g start (booked g start (opened g start) calls)
  is-book = (demand-3 g start unmarked calls).0

  -- ---- the lent buffers keep their lengths

  pub same-lengths : (length (played g start calls).weights ≡ length start.weights)
      × ((length (played g start calls).flags ≡ length start.flags) × (length (played g start calls).marks ≡ length start.marks))
  same-lengths =
      let b : Book = booked g start (opened g start) calls in (
        ap (λ (s : Sheet). length s.weights) is-book ∙ weights-long g start b,
        (
          ap (λ (s : Sheet). length s.flags) is-book ∙ flags_long g start b,
          ap (λ (s : Sheet). length s.marks) is-book ∙ marks-long g start b,
        ),
      )

  -- ---- each entry is what the word of its piece says

  pub weight_is : (i : ℕ) (d : Float) → i < length start.weights
      → get_or (played g start calls).weights i d ≡ weight_by g (word_of_weight g (booked g start (opened g start) calls) i) i (get_or start.weights i d)
  unfolding render
  weight_is i d h =
      ap (λ (s : Sheet). get_or s.weights i d) is-book
      ∙ get_or-each (λ i old. weight_by g (word_of_weight g (booked g start (opened g start) calls) i) i old) start.weights i d h

  pub flag_is : (j : ℕ) (d : ℤ) → j < length start.flags
      → get_or (played g start calls).flags j d ≡ flag_by g (word_of_flag g (booked g start (opened g start) calls) j) j (get_or start.flags j d)
  unfolding render
  flag_is j d h =
      ap (λ (s : Sheet). get_or s.flags j d) is-book
      ∙ get_or-each (λ j old. flag_by g (word_of_flag g (booked g start (opened g start) calls) j) j old) start.flags j d h

  -- the mark tells which
  pub mark-is : (q : ℕ) → q < places_in start.marks → mark_at (played g start calls).marks q ≡ mark_of (word_at (booked g start (opened g start) calls) q)
  unfolding render
  mark-is q l =
      ap (λ (s : Sheet). mark_at s.marks q) is-book
      ∙ unmarked-word (pieces_of (sizes_of g)) (booked g start (opened g start) calls).words start.marks (words_long g start calls) unmarked q l

  -- ---- a piece that no accepted call has run: its entries hold their old content, its mark is 0

  pub old-weight : (i : ℕ) (d : Float) → i < length start.weights → has_run g start (opened g start) (piece_of_weight g i) calls ≡ false
      → get_or (played g start calls).weights i d ≡ get_or start.weights i d
  unfolding weight_by
  old-weight i d h e = weight_is i d h ∙ ap (λ (w : Word). weight_by g w i (get_or start.weights i d)) (never-ran g start calls (piece_of_weight g i) e)

  pub old-flag : (j : ℕ) (d : ℤ) → j < length start.flags → has_run g start (opened g start) (piece_of_flag g j) calls ≡ false
      → get_or (played g start calls).flags j d ≡ get_or start.flags j d
  unfolding flag_by
  old-flag j d h e = flag_is j d h ∙ ap (λ (w : Word). flag_by g w j (get_or start.flags j d)) (never-ran g start calls (piece_of_flag g j) e)

  pub old-mark : (q : ℕ) → q < places_in start.marks → has_run g start (opened g start) q calls ≡ false → mark_at (played g start calls).marks q ≡ 0
  old-mark q l e = mark-is q l ∙ ap mark_of (never-ran g start calls q e)

  -- ---- one that an accepted call has run, of a triplet that none has averaged: its entries are the study's, its mark is 1

  pub computed-weight : (i : ℕ) (d : Float) → i < length start.weights
      → has_run g start (opened g start) (piece_of_weight g i) calls ≡ true → averagings g start (opened g start) (piece_of_weight g i / (sizes_of g).pairs) calls ≡ 0
      → get_or (played g start calls).weights i d ≡ weight_at g i
  unfolding weight_by
  computed-weight i d h e n =
      weight_is i d h
      ∙ ap (λ (w : Word). weight_by g w i (get_or start.weights i d)) (ran g start calls (piece_of_weight g i) ((ran-placed g start calls (piece_of_weight g i) e).weights i h) e n)

  pub computed-flag : (j : ℕ) (d : ℤ) → j < length start.flags
      → has_run g start (opened g start) (piece_of_flag g j) calls ≡ true → averagings g start (opened g start) (piece_of_flag g j / (sizes_of g).pairs) calls ≡ 0
      → get_or (played g start calls).flags j d ≡ flag_at g j
  unfolding flag_by
  computed-flag j d h e n =
      flag_is j d h
      ∙ ap (λ (w : Word). flag_by g w j (get_or start.flags j d)) (ran g start calls (piece_of_flag g j) ((ran-placed g start calls (piece_of_flag g j) e).flags j h) e n)

  pub computed-mark : (q : ℕ) → q < pieces_of (sizes_of g) → has_run g start (opened g start) q calls ≡ true
      → averagings g start (opened g start) (q / (sizes_of g).pairs) calls ≡ 0 → mark_at (played g start calls).marks q ≡ 1
  computed-mark q h e n = mark-is q ((ran-placed g start calls q e).marks q h) ∙ ap mark_of (ran g start calls q h e n)

  -- ---- one of a triplet of which an averaging was accepted: its entries are the average of the study's by that call's lists, its mark is 2

  pub averaged-weight : (i : ℕ) (d : Float) (ids1 ids2 : List ℤ) → i < length start.weights
      → AveragedBy g start (opened g start) (piece_of_weight g i / (sizes_of g).pairs) ids1 ids2 calls
      → get_or (played g start calls).weights i d ≡ averaged_at (sizes_of g) ids1 ids2 (computed_row g i) i
  unfolding weight_by
  averaged-weight i d ids1 ids2 h a =
      let on : _ = (averaged-placed g start calls (piece_of_weight g i / (sizes_of g).pairs) ids1 ids2 a).weights i h in
      weight_is i d h ∙ ap (λ (w : Word). weight_by g w i (get_or start.weights i d)) (averaged g start calls (piece_of_weight g i) ids1 ids2 on a)

  pub averaged-flag : (j : ℕ) (d : ℤ) (ids1 ids2 : List ℤ) → j < length start.flags
      → AveragedBy g start (opened g start) (piece_of_flag g j / (sizes_of g).pairs) ids1 ids2 calls
      → get_or (played g start calls).flags j d ≡ averaged_flag_at (sizes_of g) ids1 ids2 (computed_flag_row g j) j
  unfolding flag_by
  averaged-flag j d ids1 ids2 h a =
      let on : _ = (averaged-placed g start calls (piece_of_flag g j / (sizes_of g).pairs) ids1 ids2 a).flags j h in
      flag_is j d h ∙ ap (λ (w : Word). flag_by g w j (get_or start.flags j d)) (averaged g start calls (piece_of_flag g j) ids1 ids2 on a)

  pub averaged-mark : (q : ℕ) (ids1 ids2 : List ℤ) → q < pieces_of (sizes_of g) → AveragedBy g start (opened g start) (q / (sizes_of g).pairs) ids1 ids2 calls
      → mark_at (played g start calls).marks q ≡ 2
  averaged-mark q ids1 ids2 h a = mark-is q ((averaged-placed g start calls (q / (sizes_of g).pairs) ids1 ids2 a).marks q h) ∙ ap mark_of (averaged g start calls q ids1 ids2 h a)

  -- ---- "each of the sixteen has grown by exactly its own worker's accepted runs, repeats included"

  pub tally-is : (w : ℕ) → w < length start.tally → get_or (played g start calls).tally w 0 ≡ get_or start.tally w 0 + runs_accepted g start (opened g start) w calls
  unfolding render opened
  tally-is w h = ap (λ (s : Sheet). get_or s.tally w 0) is-book ∙ tally-along g start (opened g start) calls w h

  -- ---- a list cut anywhere and carried on is the list: the sheet after the cut and the calls that follow is the book's of the whole

  pub cut : (rest : List Call) → played g (played g start calls) rest ≡ render g start (booked g start (opened g start) (calls ++ rest))
  cut rest = sym (played-cut g start calls rest) ∙ (demand-3 g start unmarked (calls ++ rest)).0

  pub cut-answers : (rest : List Call) → answers g start calls ++ answers g (played g start calls) rest ≡ book_answers g start (opened g start) (calls ++ rest)
  cut-answers rest = sym (answers-cut g start calls rest) ∙ (demand-3 g start unmarked (calls ++ rest)).1

-- ---- from any sheet

module _ (g : Study) (s : Sheet) (calls : List Call) where
  -- "a sheet on which every call is refused stays as it was"
  pub refused-stays : AreRefused (answers g s calls) → played g s calls ≡ s
  refused-stays r = all-refused g s calls r

  -- "A carry-on that ends with pieces open, by demand 3's marks: after an accepted one no 0 is left."
  pub none-open-left : (worker : ℤ) → verdict g (played g s calls) (carry worker) ≡ 0 → (q : ℕ) → q < pieces_of (sizes_of g)
      → mark_at (played g s (calls ++ (carry worker ∷ []))).marks q ≡ 0 → ⊥
  none-open-left worker e q h z =
      none_open g (played g s calls) worker e q h (subst (λ (x : Sheet). mark_at x.marks q ≡ 0) (played-cut g s calls (carry worker ∷ [])) z)
