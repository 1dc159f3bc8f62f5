-- An averaging that is accepted on the book's sheet makes the sheet of the book that is written. Assumes nothing.
use mathlib.Core.Path.{◌≡◌, refl, sym, ap, ◌∙◌}
use mathlib.Core.Bool.{true}
use mathlib.Core.List.{List}
use Prim.Native.Nat.{ℕ, ◌+◌, ◌*◌, ◌/◌, ◌%◌, ◌<◌, ◌≤◌}
use native.Mathlib.Nat.{div-lt_iff_lt-mul, mul_assoc, mul_comm}
use native.Mathlib.Omega.{arith}
use lib.Dec.{eqb}
use lib.Ieee.{nan}
use lib.IntN.{ℤ, pos}
use lib.ListN.{length, get_or}
use lib.Arith.{digits_lt}
use lib.Signed.{mag}
use borrow.Author.Tests.{eqb-true}
use Rattle.list_laws.proofs.BelowLaws.{below_at}
use Rattle.list_laws.proofs.SignedLaws.{below-lt}
use Rattle.list_laws.specs.Lists.{tabulate, row_of}
use Rattle.list_laws.specs.Patch.{patch}
use Rattle.list_laws.proofs.GroupLaws.{row_within, row_made}
use Rattle.triplet_study.specs.declared.Sizes.{Sizes}
use Rattle.triplet_piece.specs.Layout.{triplet_at, piece_at}
use Rattle.triplet_piece.specs.Weights.{weight_at, flag_at}
use Rattle.triplet_study.specs.Study.{Study, sizes_of}
use Rattle.marks.specs.Bytes.{mark_at, places_in}
use Rattle.marks.specs.Marks.{are_computed, is_computed_at, averaged_marks}
use Rattle.book_claim.proofs.MarkWords.{one-computed, mark-word, average-marks}
use Rattle.sheet_step.specs.Steps.{pieces_of, Sheet, average, averaged_at, averaged_flag_at, triplet_averaged, triplet_flags_averaged, effect}
use Rattle.book_claim.specs.Book.{Word, fresh, computed, averaged_by, Book, marks_of, each_entry, weight_by, flag_by, render, writes}
use Rattle.book_claim.proofs.EntryLaws.{length-each, get_or-each, patch-each}
use Rattle.book_claim.proofs.WordLaws.{average-entry}
use Rattle.book_claim.proofs.PlaceLaws.{factor-pos, piece-div, row-piece, wrapped-row}
use Rattle.book_claim.proofs.AcceptedLaws.{Accepted, counts}
use Rattle.book_claim.proofs.RunLaws.{sheet-same, weights-long, flags_long, weight-on, flag-on, mark_on}

-- the marks' yes to question 18, of words
words-computed : (l : List Word) (start : List ℕ) (pieces b t k : ℕ) → are_computed b (marks_of pieces l start) t ≡ true → k < b → t * b + k < pieces → t * b + k < places_in start
    → get_or l (t * b + k) fresh ≡ computed
unfolding are_computed is_computed_at
words-computed l start pieces b t k e h m n =
    let f : eqb (mark_at (marks_of pieces l start) (t * b + k)) 1 ≡ true = below_at b (λ k. eqb (mark_at (marks_of pieces l start) (t * b + k)) 1) e k h in
    one-computed (get_or l (t * b + k) fresh) (sym (mark-word pieces l start (t * b + k) m n) ∙ eqb-true (mark_at (marks_of pieces l start) (t * b + k)) 1 f)

-- Weights or flags, over the element: place i is of cell `cell i`; `by w i` is what word w says there, `value i` what a run writes, `mean row i`
-- what the averaging makes of a row.
module _ {A : Type 0} (d : A) (l : List A) (cell : ℕ → ℕ) (by : Word → ℕ → A → A) (value : ℕ → A) (mean : List A → ℕ → A)
    (words : List Word) (points pairs t : ℕ) (ids1 ids2 : List ℤ) (some : 0 < pairs)
    (computed-words : (k : ℕ) → k < pairs → get_or words (t * pairs + k) fresh ≡ computed)
    (is-computed : (i : ℕ) (x : A) → by computed i x ≡ value i)
    (is-averaged : (i : ℕ) (x : A) → by (averaged_by ids1 ids2) i x ≡ mean (tabulate pairs (λ k. value (i / pairs * pairs + k))) i)
    (in_row : (i k : ℕ) → i < length l → k < pairs → piece_at points pairs (cell (i / pairs * pairs + k)) ≡ triplet_at points pairs (cell i) * pairs + k)
    (on : (i : ℕ) → i < length l → piece_at points pairs (cell i) < length words)
    (rows : ℕ) (many : length l ≡ rows * pairs) where
  -- what the words say of the list
  abbrev said : List Word → List A
  said w = each_entry (λ i old. by (get_or w (piece_at points pairs (cell i)) fresh) i old) l

  -- a row of the triplet is computed
  row-computed : (i : ℕ) → i < length l → triplet_at points pairs (cell i) ≡ t → row_of pairs (i / pairs) (said words) ≡ tabulate pairs (λ k. value (i / pairs * pairs + k))
  row-computed i h e =
      let within : i / pairs * pairs + pairs ≤ length l = rw many (row_within i pairs rows some (rw many at h)) in
      row_made d (said words) pairs (i / pairs) value (rw (length-each (λ i old. by (get_or words (piece_at points pairs (cell i)) fresh) i old) l) within)
      (λ k q.
      get_or-each (λ i old. by (get_or words (piece_at points pairs (cell i)) fresh) i old) l (i / pairs * pairs + k) d (omega arith)
      ∙ rw (in_row i k h q, e, computed-words k q) (is-computed (i / pairs * pairs + k) _))

  averaged-same : patch (λ i. eqb (triplet_at points pairs (cell i)) t) (λ i. mean (row_of pairs (i / pairs) (said words)) i) (said words)
      ≡ said (patch (λ q. eqb (q / pairs) t) (λ q. averaged_by ids1 ids2) words)
  averaged-same =
      patch-each _ _ _ _ l
      (λ i h x.
      let triplet : _ = piece-div points pairs some (cell i) in
      rw (← triplet)
      (average-entry words (piece_at points pairs (cell i)) pairs t ids1 ids2 (λ w old. by w i old) _ x (on i h)
      (λ e. ap (λ (row : List A). mean row i) (row-computed i h (sym triplet ∙ e)) ∙ sym (is-averaged i x))))

module _ (g : Study) (start : Sheet) (b : Book) (long : length b.words ≡ pieces_of (sizes_of g)) (t : ℤ) (ids1 ids2 : List ℤ) (a : Accepted g (render g start b) (average t ids1 ids2)) where
  -- the triplet's words are computed
  pub all-computed : (k : ℕ) → k < (sizes_of g).pairs → get_or b.words (mag t * (sizes_of g).pairs + k) fresh ≡ computed
  unfolding render
  all-computed k h =
      let on : mag t * (sizes_of g).pairs + k < pieces_of (sizes_of g) = digits_lt (below-lt t (sizes_of g).triplets a.own.0) h in
      words-computed b.words start.marks (pieces_of (sizes_of g)) (sizes_of g).pairs (mag t) k a.own.1.1.1.1.0 h on (mark_on g start b (average t ids1 ids2) a _ on)

  weight-rows : (i k : ℕ) → i < length start.weights → k < (sizes_of g).pairs
      → piece_at (sizes_of g).points (sizes_of g).pairs ((i / (sizes_of g).pairs * (sizes_of g).pairs + k) % (sizes_of g).cells)
      ≡ triplet_at (sizes_of g).points (sizes_of g).pairs (i % (sizes_of g).cells) * (sizes_of g).pairs + k
  weight-rows i k h q =
      let z : Sizes = sizes_of g in
      let n : ℕ = z.triplets * z.points in
      let long : length start.weights ≡ z.channels * z.cells = sym (weights-long g start b) ∙ a.ready.fits.weighed in
      let cells : z.cells ≡ n * z.pairs = (counts a).cells_are in
      let hc : 0 < n * z.pairs = rw (← cells) (factor-pos i z.channels z.cells (rw long at h)) in
      let hn : 0 < n = factor-pos 0 z.pairs n (rw (mul_comm z.pairs n) hc) in
      rw cells (wrapped-row z.points z.pairs n (counts a).pairs-some hn i k q)

  weights-same : triplet_averaged (sizes_of g) (mag t) ids1 ids2 (render g start b).weights ≡ (render g start (writes g b (average t ids1 ids2))).weights
  unfolding render writes triplet_averaged weight_by
  weights-same =
      let z : Sizes = sizes_of g in
      let n : ℕ = z.triplets * z.points in
      let many : z.channels * z.cells ≡ z.channels * n * z.pairs = rw (counts a).cells_are (sym (mul_assoc z.channels n z.pairs)) in
      averaged-same nan start.weights (λ i. i % z.cells) (weight_by g) (weight_at g) (averaged_at z ids1 ids2) b.words z.points z.pairs (mag t) ids1 ids2
      (counts a).pairs-some all-computed (λ i x. refl) (λ i x. refl) weight-rows (λ i h. rw long (weight-on g start b (average t ids1 ids2) a i h))
      (z.channels * n) (sym (weights-long g start b) ∙ a.ready.fits.weighed ∙ many)

  flags-same : triplet_flags_averaged (sizes_of g) (mag t) ids1 ids2 (render g start b).flags ≡ (render g start (writes g b (average t ids1 ids2))).flags
  unfolding render writes triplet_flags_averaged flag_by
  flags-same =
      let z : Sizes = sizes_of g in
      averaged-same (pos 0) start.flags (λ j. j) (flag_by g) (flag_at g) (averaged_flag_at z ids1 ids2) b.words z.points z.pairs (mag t) ids1 ids2
      (counts a).pairs-some all-computed (λ j x. refl) (λ j x. refl) (λ j k h q. row-piece z.points z.pairs j k q) (λ j h. rw long (flag-on g start b (average t ids1 ids2) a j h))
      (z.triplets * z.points) (sym (flags_long g start b) ∙ a.ready.fits.flagged ∙ (counts a).cells_are)

  marks-same : averaged_marks (sizes_of g).pairs (mag t) (render g start b).marks ≡ (render g start (writes g b (average t ids1 ids2))).marks
  unfolding render writes
  marks-same =
      average-marks (pieces_of (sizes_of g)) b.words start.marks (sizes_of g).pairs (mag t) ids1 ids2 long
      (λ q e. let l : mag t < (sizes_of g).triplets = below-lt t (sizes_of g).triplets a.own.0 in (div-lt_iff_lt-mul (counts a).pairs-some).0 (rw e l))

  tally-same : (render g start b).tally ≡ (render g start (writes g b (average t ids1 ids2))).tally
  unfolding render writes
  tally-same = refl

  pub average-same : effect g (render g start b) (average t ids1 ids2) ≡ render g start (writes g b (average t ids1 ids2))
  unfolding effect
  average-same = sheet-same weights-same flags-same marks-same tally-same
