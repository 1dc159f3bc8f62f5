-- A run and a carry-on that are accepted on the book's sheet make the sheet of the book that is written. Assumes nothing.
use mathlib.Core.Path.{◌≡◌, refl, sym, ap, subst, ◌∙◌}
use Prim.Native.Nat.{ℕ, ◌*◌, ◌%◌, ◌<◌}
use native.Mathlib.Nat.{mod-lt}
use lib.IntN.{ℤ}
use mathlib.Core.List.{map}
use lib.ListN.{length, get_or}
use Rattle.list_laws.specs.Lists.{count_below}
use Rattle.list_laws.proofs.MapLaws.{get_or-map-lt}
use Rattle.triplet_piece.specs.Layout.{piece_at}
use Rattle.triplet_piece.specs.Weights.{computed_weights, computed_flags}
use Rattle.triplet_study.specs.Study.{Study, sizes_of}
use Rattle.marks.specs.Bytes.{places_in, Holds}
use Rattle.marks.specs.Marks.{open_pieces}
use Rattle.marks.proofs.BytesLaws.{all_in, place_in, holds_same}
use Rattle.sheet_tally.specs.Tallies.{with_runs}
use Rattle.sheet_step.specs.Steps.{Sheet, sheet, Call, run, carry, pieces_of, piece_of, effect}
use Rattle.book_claim.specs.Book.{fresh, Book, is_open, open_words, carried, weight_by, flag_by, word_of_weight, word_of_flag, render, writes}
use Rattle.book_claim.proofs.EntryLaws.{length-each, patch-each}
use Rattle.book_claim.proofs.WordLaws.{run-entry, carry-entry}
use Rattle.book_claim.proofs.MarkWords.{length-words, run-marks, carry-marks, open-count}
use Rattle.book_claim.proofs.PlaceLaws.{factor-pos, piece-lt}
use Rattle.book_claim.proofs.AcceptedLaws.{Accepted, counts, named}

pub sheet-same : {s s' : Sheet} → s.weights ≡ s'.weights → s.flags ≡ s'.flags → s.marks ≡ s'.marks → s.tally ≡ s'.tally → s ≡ s'
sheet-same a b c d = λ i. sheet (a i) (b i) (c i) (d i)

module _ (g : Study) (start : Sheet) (b : Book) where
  -- ---- lengths

  pub weights-long : length (render g start b).weights ≡ length start.weights
  unfolding render
  weights-long = length-each (λ i old. weight_by g (word_of_weight g b i) i old) start.weights

  pub flags_long : length (render g start b).flags ≡ length start.flags
  unfolding render
  flags_long = length-each (λ j old. flag_by g (word_of_flag g b j) j old) start.flags

  pub marks-long : length (render g start b).marks ≡ length start.marks
  unfolding render
  marks-long = length-words (pieces_of (sizes_of g)) b.words start.marks

  -- ---- on an accepted call: the piece of a weight's place, and of a flag's, is one of the pieces

  module _ (c : Call) (a : Accepted g (render g start b) c) where
    pub flag-on : (j : ℕ) → j < length start.flags → piece_at (sizes_of g).points (sizes_of g).pairs j < pieces_of (sizes_of g)
    flag-on j h =
        let e : length start.flags ≡ (sizes_of g).triplets * (sizes_of g).points * (sizes_of g).pairs = sym flags_long ∙ a.ready.fits.flagged ∙ (counts a).cells_are in
        piece-lt (sizes_of g).points (sizes_of g).pairs (sizes_of g).triplets (counts a).pairs-some (counts a).points-some j (rw e at h)

    pub weight-on : (i : ℕ) → i < length start.weights → piece_at (sizes_of g).points (sizes_of g).pairs (i % (sizes_of g).cells) < pieces_of (sizes_of g)
    weight-on i h =
        let e : length start.weights ≡ (sizes_of g).channels * (sizes_of g).cells = sym weights-long ∙ a.ready.fits.weighed in
        let k : i % (sizes_of g).cells < (sizes_of g).cells = mod-lt i (factor-pos i (sizes_of g).channels (sizes_of g).cells (rw e at h)) in
        let m : i % (sizes_of g).cells < (sizes_of g).triplets * (sizes_of g).points * (sizes_of g).pairs = subst (λ (n : ℕ). i % (sizes_of g).cells < n) (counts a).cells_are k in
        piece-lt (sizes_of g).points (sizes_of g).pairs (sizes_of g).triplets (counts a).pairs-some (counts a).points-some (i % (sizes_of g).cells) m

    -- every piece has a mark
    pub all-marked : Holds (pieces_of (sizes_of g)) start.marks
    all-marked = holds_same (pieces_of (sizes_of g)) (render g start b).marks start.marks (sym marks-long) a.marked

    pub mark_on : (q : ℕ) → q < pieces_of (sizes_of g) → q < places_in start.marks
    mark_on q h = place_in (pieces_of (sizes_of g)) start.marks q all-marked h

  module _ (long : length b.words ≡ pieces_of (sizes_of g)) where
    -- the open pieces of the marks are those of the words
    pub open-runs : (worker : ℤ) → Accepted g (render g start b) (carry worker) → open_pieces (pieces_of (sizes_of g)) (render g start b).marks ≡ open_words b.words
    unfolding render open_words
    open-runs worker a =
        open-count (pieces_of (sizes_of g)) b.words start.marks (all_in (pieces_of (sizes_of g)) start.marks (all-marked (carry worker) a))
        ∙ ap (λ (n : ℕ). count_below n (λ q. is_open (get_or b.words q fresh))) (sym long)

    -- ---- a run

    pub run-same : (worker t b1 b2 : ℤ) → Accepted g (render g start b) (run worker t b1 b2) → effect g (render g start b) (run worker t b1 b2) ≡ render g start (writes g b (run worker t b1 b2))
    unfolding effect render writes computed_weights computed_flags weight_by flag_by
    run-same worker t b1 b2 a =
        let q : ℕ = piece_of (sizes_of g) t b1 b2 in
        let on : q < pieces_of (sizes_of g) = named g (render g start b) worker t b1 b2 a in
        let h : q < length b.words = rw long on in
        sheet-same
        (patch-each _ _ _ _ start.weights
        (λ i _ x. run-entry b.words q (piece_at (sizes_of g).points (sizes_of g).pairs (i % (sizes_of g).cells)) (λ w old. weight_by g w i old) _ x h refl))
        (patch-each _ _ _ _ start.flags
        (λ j _ x. run-entry b.words q (piece_at (sizes_of g).points (sizes_of g).pairs j) (λ w old. flag_by g w j old) _ x h refl))
        (run-marks (pieces_of (sizes_of g)) b.words start.marks q on long) refl

    -- ---- a carry-on

    pub carry_same : (worker : ℤ) → Accepted g (render g start b) (carry worker) → effect g (render g start b) (carry worker) ≡ render g start (writes g b (carry worker))
    unfolding effect render writes computed_weights computed_flags weight_by flag_by
    carry_same worker a =
        sheet-same
        (patch-each _ _ _ _ start.weights
        (λ i h x. let on : piece_at (sizes_of g).points (sizes_of g).pairs (i % (sizes_of g).cells) < pieces_of (sizes_of g) = weight-on (carry worker) a i h in
        carry-entry b.words start.marks (pieces_of (sizes_of g)) (piece_at (sizes_of g).points (sizes_of g).pairs (i % (sizes_of g).cells)) (λ w old. weight_by g w i old) _ x on (rw long on) (mark_on (carry worker) a _ on) refl))
        (patch-each _ _ _ _ start.flags
        (λ j h x. let on : piece_at (sizes_of g).points (sizes_of g).pairs j < pieces_of (sizes_of g) = flag-on (carry worker) a j h in
        carry-entry b.words start.marks (pieces_of (sizes_of g)) (piece_at (sizes_of g).points (sizes_of g).pairs j) (λ w old. flag_by g w j old) _ x on (rw long on) (mark_on (carry worker) a _ on) refl))
        (carry-marks (pieces_of (sizes_of g)) b.words start.marks (map carried b.words) (λ q l. get_or-map-lt carried b.words q fresh fresh (rw long l)))
        (ap (with_runs b.tally worker) (open-runs worker a))
