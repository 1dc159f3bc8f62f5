-- Which word the book has for a piece after a list of calls, by the accepted calls of the list. Assumes nothing.
use mathlib.Core.Path.{◌≡◌, refl, sym, ap, ◌∙◌}
use mathlib.Core.Bool.{Bool, true, false, not}
use mathlib.Core.List.{List, [], ◌∷◌}
use mathlib.Core.Logic.{⊎_elim}
use Prim.Native.Nat.{ℕ, zero, suc, ◌/◌, ◌<◌, ◌≤◌}
use native.Mathlib.Nat.{le_of_suc-le-suc, not-suc-le-zero}
use native.Mathlib.Omega.{arith}
use lib.IntN.{ℤ}
use lib.ListN.{length, get_or}
use Rattle.list_laws.proofs.BoolLaws.{clash, lt-or-le}
use Rattle.list_laws.specs.Lists.{one_if}
use Rattle.list_laws.proofs.MapLaws.{get_d_replicate}
use Rattle.marks.specs.Bytes.{places_in}
use Rattle.triplet_study.specs.Study.{Study, sizes_of}
use Rattle.sheet_step.specs.Steps.{pieces_of, Sheet, Call, average}
use Rattle.book_claim.specs.Book.{piece_of_weight, piece_of_flag, word_at, Word, fresh, computed, averaged_by, Book, is_open, book_no, turn, opened, booked}
use Rattle.book_claim.specs.Counts.{has_run, averagings, AveragedBy, is_averaged}
use Rattle.book_claim.proofs.RunLaws.{weight-on, flag-on, mark_on}
use Rattle.book_claim.proofs.Demand3.{opened-long}
use Rattle.book_claim.proofs.TurnLaws.{On, turn-long, average-turn, yes}
use Rattle.book_claim.proofs.AlongLaws.{booked-long, ran-accepted, stays, open-along, averaged-along, averaged-by}
use Rattle.book_claim.proofs.CutLaws.{booked-cut}

-- ---- lists and words

beyond : {A : Type 0} (l : List A) (q : ℕ) (d : A) → length l ≤ q → get_or l q d ≡ d
beyond [] q d h = refl
beyond (x ∷ l) zero d h = absurd (not-suc-le-zero h)
beyond (x ∷ l) (suc q) d h = beyond l q d (le_of_suc-le-suc h)

open-fresh : (w : Word) → is_open w ≡ true → w ≡ fresh
open-fresh fresh e = refl
open-fresh computed e = clash e
open-fresh (averaged_by ids1 ids2) e = clash e

neither-computed : (w : Word) → is_open w ≡ false → is_averaged w ≡ false → w ≡ computed
neither-computed fresh e f = clash (sym e)
neither-computed computed e f = refl
neither-computed (averaged_by ids1 ids2) e f = clash (sym f)

one-true : (u : Bool) → one_if u ≡ 0 → u ≡ false
one-true true e = absurd (let z : ⊥ = omega arith in z)
one-true false e = refl

-- each place is of a piece of the sheet, and each piece has a mark
pub record Placed (g : Study) (start : Sheet) : Type 0 where
  pub weights : (i : ℕ) → i < length start.weights → piece_of_weight g i < pieces_of (sizes_of g)
  pub flags : (j : ℕ) → j < length start.flags → piece_of_flag g j < pieces_of (sizes_of g)
  pub marks : (q : ℕ) → q < pieces_of (sizes_of g) → q < places_in start.marks

module _ (g : Study) (start : Sheet) where
  opened-fresh : (q : ℕ) → word_at (opened g start) q ≡ fresh
  unfolding opened
  opened-fresh q = get_d_replicate (pieces_of (sizes_of g)) q fresh

  -- a word for each piece
  pub words_long : (calls : List Call) → length (booked g start (opened g start) calls).words ≡ pieces_of (sizes_of g)
  words_long calls = booked-long g start (opened g start) calls ∙ opened-long g start

  in-opened : (q : ℕ) → q < pieces_of (sizes_of g) → On g start (opened g start) q
  in-opened q h = (opened-long g start, h)

  -- ---- where a call was accepted, every weight and every flag is of a piece of the sheet, and every piece has a mark

  placed : (b : Book) (c : Call) → book_no g start b c ≡ 0 → Placed g start
  placed b c e =
      let a : _ = yes g start b c e in
      record { weights = weight-on g start b c a; flags = flag-on g start b c a; marks = mark_on g start b c a }

  pub ran-placed : (calls : List Call) (q : ℕ) → has_run g start (opened g start) q calls ≡ true → Placed g start
  ran-placed calls q r = let l : _ = ran-accepted g start q (opened g start) calls r in placed l.0 l.1.1.0 l.1.1.1

  pub averaged-placed : (calls : List Call) (t : ℕ) (ids1 ids2 : List ℤ) → AveragedBy g start (opened g start) t ids1 ids2 calls → Placed g start
  averaged-placed calls t ids1 ids2 a = placed (booked g start (opened g start) a.before) (average a.named ids1 ids2) a.accepted

  -- ---- what its word says of the calls on a piece

  -- it is open exactly where no accepted call has run the piece
  pub word-ran : (calls : List Call) (q : ℕ) → q < pieces_of (sizes_of g) → is_open (word_at (booked g start (opened g start) calls) q) ≡ not (has_run g start (opened g start) q calls)
  word-ran calls q h = open-along g start q (opened g start) calls (in-opened q h) ∙ rw (opened-fresh q)

  -- its triplet has been averaged once where it is averaged, otherwise never
  pub word-averaged : (calls : List Call) (q : ℕ) → q < pieces_of (sizes_of g)
      → averagings g start (opened g start) (q / (sizes_of g).pairs) calls ≡ one_if (is_averaged (word_at (booked g start (opened g start) calls) q))
  word-averaged calls q h = let count : _ = rw (opened-fresh q) at (averaged-along g start q (opened g start) calls (in-opened q h)) in omega (arith, count)

  -- ---- which word a piece has, by the calls

  -- a piece that no accepted call has run is open
  pub never-ran : (calls : List Call) (q : ℕ) → has_run g start (opened g start) q calls ≡ false → word_at (booked g start (opened g start) calls) q ≡ fresh
  never-ran calls q e = ⊎_elim inside outside (lt-or-le q (pieces_of (sizes_of g)))
    where
      inside : q < pieces_of (sizes_of g) → word_at (booked g start (opened g start) calls) q ≡ fresh
      inside h =
          open-fresh (word_at (booked g start (opened g start) calls) q)
          (word-ran calls q h ∙ rw e)

      outside : pieces_of (sizes_of g) ≤ q → word_at (booked g start (opened g start) calls) q ≡ fresh
      outside h = beyond (booked g start (opened g start) calls).words q fresh (rw (words_long calls) h)

  -- one that an accepted call has run, of a triplet that none has averaged, is computed
  pub ran : (calls : List Call) (q : ℕ) → q < pieces_of (sizes_of g) → has_run g start (opened g start) q calls ≡ true
      → averagings g start (opened g start) (q / (sizes_of g).pairs) calls ≡ 0 → word_at (booked g start (opened g start) calls) q ≡ computed
  ran calls q h e n =
      neither-computed (word_at (booked g start (opened g start) calls) q) (word-ran calls q h ∙ rw e)
      (one-true (is_averaged (word_at (booked g start (opened g start) calls) q)) (sym (word-averaged calls q h) ∙ n))

  -- the pieces of a triplet of which an averaging was accepted are averaged, with that call's lists beside them
  pub averaged : (calls : List Call) (q : ℕ) (ids1 ids2 : List ℤ) → q < pieces_of (sizes_of g) → AveragedBy g start (opened g start) (q / (sizes_of g).pairs) ids1 ids2 calls
      → word_at (booked g start (opened g start) calls) q ≡ averaged_by ids1 ids2
  averaged calls q ids1 ids2 h a =
      let b : Book = booked g start (opened g start) a.before in
      let in_b : On g start b q = (words_long a.before, h) in
      let w : word_at (turn g start b (average a.named ids1 ids2)) q ≡ averaged_by ids1 ids2 = average-turn g start b q in_b a.named ids1 ids2 a.triplet a.accepted in
      let in-turn : On g start (turn g start b (average a.named ids1 ids2)) q = (turn-long g start b (average a.named ids1 ids2) ∙ words_long a.before, h) in
      ap (λ (l : List Call). word_at (booked g start (opened g start) l) q) a.parts
      ∙ ap (λ (x : Book). word_at x q) (booked-cut g start (opened g start) a.before (average a.named ids1 ids2 ∷ a.after))
      ∙ stays g start q (turn g start b (average a.named ids1 ids2)) a.after in-turn (ap is_averaged w)
      ∙ w

  -- an averaged word: its triplet was averaged by exactly one accepted call of the list, and that call's lists stand beside it
  pub averaged-once : (calls : List Call) (q : ℕ) (ids1 ids2 : List ℤ) → q < pieces_of (sizes_of g) → word_at (booked g start (opened g start) calls) q ≡ averaged_by ids1 ids2
      → AveragedBy g start (opened g start) (q / (sizes_of g).pairs) ids1 ids2 calls × (averagings g start (opened g start) (q / (sizes_of g).pairs) calls ≡ 1)
  averaged-once calls q ids1 ids2 h e =
      (averaged-by g start q ids1 ids2 (opened g start) calls (in-opened q h) (ap is_averaged (opened-fresh q)) e, word-averaged calls q h ∙ rw e)

  -- and no triplet more than once
  pub at-most-once : (calls : List Call) (q : ℕ) → q < pieces_of (sizes_of g) → averagings g start (opened g start) (q / (sizes_of g).pairs) calls ≤ 1
  at-most-once calls q h =
      go (is_averaged (word_at (booked g start (opened g start) calls) q)) (averagings g start (opened g start) (q / (sizes_of g).pairs) calls) (word-averaged calls q h)
    where
      go : (u : Bool) (n : ℕ) → n ≡ one_if u → n ≤ 1
      go true n e = omega arith
      go false n e = omega arith
