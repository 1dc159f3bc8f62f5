-- One call and the word of one piece: an averaged word stays; an open one is run, or stays open; who averages. Assumes nothing.
use mathlib.Core.Path.{◌≡◌, refl, sym, ap, ◌∙◌}
use mathlib.Core.Bool.{Bool, true, false, not, ◌&&◌, cond}
use mathlib.Core.List.{List}
use Prim.Native.Nat.{ℕ, zero, suc, ◌+◌, ◌*◌, ◌/◌, ◌%◌, ◌<◌, ◌≤◌}
use native.Mathlib.Nat.{div-add-mod', mod-lt}
use native.Mathlib.Omega.{arith}
use lib.Arith.{digits_div}
use lib.Dec.{eqb, ltb}
use lib.IntN.{ℤ}
use lib.ListN.{length, get_or, set, length-set, length-map}
use lib.Seq.{get_or-set_same, get_or-set_other}
use lib.Signed.{mag}
use borrow.Author.Tests.{eqb-true, eqb-false, eq-eqb, not-true}
use Rattle.list_laws.proofs.BelowLaws.{below_at}
use Rattle.list_laws.proofs.BoolLaws.{and_right, clash}
use Rattle.list_laws.proofs.PatchLaws.{length-patch, get_or-patch}
use Rattle.list_laws.specs.Lists.{one_if}
use Rattle.list_laws.proofs.MapLaws.{get_or-map-lt}
use Rattle.ask.specs.Ask.{after_call}
use Rattle.triplet_study.specs.Study.{Study, sizes_of}
use Rattle.marks.specs.Bytes.{mark_at, places_in}
use Rattle.marks.proofs.BytesLaws.{all_in}
use Rattle.marks.proofs.MarkLaws.{alike_same}
use Rattle.marks.specs.Marks.{is_averaged_at, alike, is_mark, is_mark_beside, are_marks, is_not_averaged}
use Rattle.book_claim.proofs.MarkWords.{mark-word}
use Rattle.book_claim.proofs.RunLaws.{all-marked}
use Rattle.sheet_step.specs.Steps.{pieces_of, Sheet, Call, run, carry, average, piece_of}
use Rattle.book_claim.specs.Book.{word_at, Word, fresh, computed, averaged_by, Book, mark_of, marks_of, is_open, carried, render, writes, book_no, turn}
use Rattle.book_claim.specs.Counts.{runs_piece, averages, is_averaged}
use Rattle.book_claim.proofs.AcceptedLaws.{Accepted, counts, accepted, piece-in}
use Rattle.book_claim.proofs.AverageLaws.{all-computed}

-- ---- questions 13 and 15, of words

averaged-mark : (w : Word) → eqb (mark_of w) 2 ≡ is_averaged w
averaged-mark fresh = refl
averaged-mark computed = refl
averaged-mark (averaged_by ids1 ids2) = refl

-- piece q is one of a book's
abbrev pub On : Study → Sheet → Book → ℕ → Type 0
On g start b q = (length b.words ≡ pieces_of (sizes_of g)) × (q < pieces_of (sizes_of g))

pub on_word : (g : Study) (start : Sheet) (b : Book) (q : ℕ) → On g start b q → q < length b.words
on_word g start b q h = omega (arith, h.0, h.1)

module _ (l : List Word) (start : List ℕ) (pieces : ℕ) (held : pieces ≤ places_in start) where
  averaged-at : (q : ℕ) → q < pieces → is_averaged_at (marks_of pieces l start) q ≡ is_averaged (get_or l q fresh)
  unfolding is_averaged_at
  averaged-at q h = ap (λ (m : ℕ). eqb m 2) (mark-word pieces l start q h (omega arith)) ∙ averaged-mark (get_or l q fresh)

  -- a piece is averaged where the first of its triplet is
  triplet-alike : (b q : ℕ) → are_marks b pieces (marks_of pieces l start) ≡ true → q < pieces → is_averaged (get_or l q fresh) ≡ is_averaged_at (marks_of pieces l start) (q / b * b)
  unfolding are_marks is_mark is_mark_beside is_averaged_at
  triplet-alike b q e h =
      let m : List ℕ = marks_of pieces l start in
      let y : (ltb (mark_at m q) 3 && alike (is_averaged_at m q) (is_averaged_at m (q / b * b))) ≡ true = below_at pieces (is_mark b m) e q h in
      sym (averaged-at q h)
      ∙ alike_same (is_averaged_at m q) (is_averaged_at m (q / b * b)) (and_right (ltb (mark_at m q) 3) (alike (is_averaged_at m q) (is_averaged_at m (q / b * b))) y)

  -- no piece of a triplet that is not yet averaged is averaged
  none-averaged : (b t q : ℕ) → are_marks b pieces (marks_of pieces l start) ≡ true → is_not_averaged b (marks_of pieces l start) t ≡ true → q / b ≡ t → q < pieces
      → is_averaged (get_or l q fresh) ≡ false
  unfolding is_not_averaged
  none-averaged b t q e n d h = triplet-alike b q e h ∙ rw d (not-true (is_averaged_at (marks_of pieces l start) (t * b)) n)

-- ---- one call

-- a carry-on leaves an averaged word
carried-averaged : (w : Word) → is_averaged (carried w) ≡ is_averaged w
carried-averaged fresh = refl
carried-averaged computed = refl
carried-averaged (averaged_by ids1 ids2) = refl

carried-kept : (w : Word) → is_averaged w ≡ true → carried w ≡ w
carried-kept fresh e = clash e
carried-kept computed e = clash e
carried-kept (averaged_by ids1 ids2) e = refl

carried-open : (w : Word) → is_open (carried w) ≡ (is_open w && not (is_open w))
carried-open fresh = refl
carried-open computed = refl
carried-open (averaged_by ids1 ids2) = refl

and-true : (x : Bool) → x ≡ (x && true)
and-true true = refl
and-true false = refl

and-false : (x : Bool) → false ≡ (x && false)
and-false true = refl
and-false false = refl

module _ (g : Study) (start : Sheet) (b : Book) where
  -- there are as many words afterwards
  pub turn-long : (c : Call) → length (turn g start b c).words ≡ length b.words
  unfolding turn writes
  turn-long c = go c (book_no g start b c)
    where
      go : (c : Call) (n : ℕ) → length (after_call n (writes g b c) b).words ≡ length b.words
      go (run worker t b1 b2) zero = length-set b.words (piece_of (sizes_of g) t b1 b2) computed
      go (carry worker) zero = length-map b.words carried
      go (average t ids1 ids2) zero = length-patch (λ q. eqb (q / (sizes_of g).pairs) (mag t)) (λ q. averaged_by ids1 ids2) b.words
      go c (suc n) = refl

  -- the call is accepted: every question said yes
  pub yes : (c : Call) → book_no g start b c ≡ 0 → Accepted g (render g start b) c
  unfolding book_no
  yes c e = accepted g (render g start b) c e

  module _ (q : ℕ) (h : On g start b q) where
    -- an accepted run is not of an averaged piece
    run-open : (worker t b1 b2 : ℤ) → Accepted g (render g start b) (run worker t b1 b2) → q ≡ piece_of (sizes_of g) t b1 b2 → is_averaged (word_at b q) ≡ false
    unfolding render
    run-open worker t b1 b2 a e =
        let in_row : _ = piece-in (sizes_of g) t b1 b2 (counts a).pairs-are a.own.0 in
        none-averaged b.words start.marks (pieces_of (sizes_of g)) (all_in (pieces_of (sizes_of g)) start.marks (all-marked g start b (run worker t b1 b2) a)) (sizes_of g).pairs (mag t) q a.fine a.own.1.0 (rw e (digits_div (mag t) in_row.1)) h.1

    -- an accepted averaging is of computed pieces
    average-computed : (t : ℤ) (ids1 ids2 : List ℤ) → Accepted g (render g start b) (average t ids1 ids2) → q / (sizes_of g).pairs ≡ mag t → word_at b q ≡ computed
    average-computed t ids1 ids2 a e =
        let place : q ≡ mag t * (sizes_of g).pairs + q % (sizes_of g).pairs = sym (div-add-mod' q (sizes_of g).pairs) ∙ rw e in
        ap (λ (n : ℕ). word_at b n) place ∙ all-computed g start b h.0 t ids1 ids2 a (q % (sizes_of g).pairs) (mod-lt q (counts a).pairs-some)

    -- it writes its lists beside them
    pub average-turn : (t : ℤ) (ids1 ids2 : List ℤ) → q / (sizes_of g).pairs ≡ mag t → book_no g start b (average t ids1 ids2) ≡ 0
        → word_at (turn g start b (average t ids1 ids2)) q ≡ averaged_by ids1 ids2
    unfolding turn writes
    average-turn t ids1 ids2 e z =
        ap (λ (n : ℕ). word_at (after_call n (writes g b (average t ids1 ids2)) b) q) z
        ∙ get_or-patch (λ q. eqb (q / (sizes_of g).pairs) (mag t)) (λ q. averaged_by ids1 ids2) b.words q fresh (on_word g start b q h)
        ∙ ap (λ (u : Bool). cond u (averaged_by ids1 ids2) (word_at b q)) (eq-eqb (q / (sizes_of g).pairs) (mag t) e)

    -- ---- an averaged word stays

    pub kept : (c : Call) → is_averaged (word_at b q) ≡ true → word_at (turn g start b c) q ≡ word_at b q
    unfolding turn writes
    kept c av = go c (book_no g start b c) refl
      where
        at-run : (worker t b1 b2 : ℤ) → Accepted g (render g start b) (run worker t b1 b2) → (u : Bool) → eqb q (piece_of (sizes_of g) t b1 b2) ≡ u
            → get_or (set b.words (piece_of (sizes_of g) t b1 b2) computed) q fresh ≡ word_at b q
        at-run worker t b1 b2 a true e = clash (sym (run-open worker t b1 b2 a (eqb-true q (piece_of (sizes_of g) t b1 b2) e)) ∙ av)
        at-run worker t b1 b2 a false e = get_or-set_other b.words (piece_of (sizes_of g) t b1 b2) q computed fresh (eqb-false q (piece_of (sizes_of g) t b1 b2) e)

        at-average : (t : ℤ) (ids1 ids2 : List ℤ) → Accepted g (render g start b) (average t ids1 ids2) → (u : Bool) → eqb (q / (sizes_of g).pairs) (mag t) ≡ u
            → cond u (averaged_by ids1 ids2) (word_at b q) ≡ word_at b q
        at-average t ids1 ids2 a true e = clash (sym (ap is_averaged (average-computed t ids1 ids2 a (eqb-true (q / (sizes_of g).pairs) (mag t) e))) ∙ av)
        at-average t ids1 ids2 a false e = refl

        go : (c : Call) (n : ℕ) → book_no g start b c ≡ n → word_at (after_call n (writes g b c) b) q ≡ word_at b q
        go (run worker t b1 b2) zero e = at-run worker t b1 b2 (yes (run worker t b1 b2) e) (eqb q (piece_of (sizes_of g) t b1 b2)) refl
        go (carry worker) zero e = get_or-map-lt carried b.words q fresh fresh (on_word g start b q h) ∙ carried-kept (word_at b q) av
        go (average t ids1 ids2) zero e =
            get_or-patch (λ q. eqb (q / (sizes_of g).pairs) (mag t)) (λ q. averaged_by ids1 ids2) b.words q fresh (on_word g start b q h)
            ∙ at-average t ids1 ids2 (yes (average t ids1 ids2) e) (eqb (q / (sizes_of g).pairs) (mag t)) refl
        go c (suc n) e = refl

    -- ---- a word is averaged afterwards where it was before, or where the call averages its triplet, and never both

    pub averaged-turn : (c : Call)
        → one_if (is_averaged (word_at b q)) + after_call (book_no g start b c) (one_if (averages (q / (sizes_of g).pairs) c)) 0 ≡ one_if (is_averaged (word_at (turn g start b c) q))
    unfolding turn writes
    averaged-turn c = go c (book_no g start b c) refl
      where
        none : (x : Bool) → one_if x + 0 ≡ one_if x
        none x = omega arith

        at-run : (worker t b1 b2 : ℤ) → Accepted g (render g start b) (run worker t b1 b2) → (u : Bool) → eqb q (piece_of (sizes_of g) t b1 b2) ≡ u
            → is_averaged (word_at b q) ≡ is_averaged (get_or (set b.words (piece_of (sizes_of g) t b1 b2) computed) q fresh)
        at-run worker t b1 b2 a true e =
            let p : q ≡ piece_of (sizes_of g) t b1 b2 = eqb-true q (piece_of (sizes_of g) t b1 b2) e in
            let w : get_or (set b.words (piece_of (sizes_of g) t b1 b2) computed) q fresh ≡ computed = rw (← p) (get_or-set_same b.words q computed fresh (on_word g start b q h)) in
            run-open worker t b1 b2 a p ∙ sym (ap is_averaged w)
        at-run worker t b1 b2 a false e = ap is_averaged (sym (get_or-set_other b.words (piece_of (sizes_of g) t b1 b2) q computed fresh (eqb-false q (piece_of (sizes_of g) t b1 b2) e)))

        at-average : (t : ℤ) (ids1 ids2 : List ℤ) → Accepted g (render g start b) (average t ids1 ids2) → (u : Bool) → eqb (q / (sizes_of g).pairs) (mag t) ≡ u
            → one_if (is_averaged (word_at b q)) + one_if u ≡ one_if (is_averaged (cond u (averaged_by ids1 ids2) (word_at b q)))
        at-average t ids1 ids2 a true e = rw (average-computed t ids1 ids2 a (eqb-true (q / (sizes_of g).pairs) (mag t) e))
        at-average t ids1 ids2 a false e = none (is_averaged (word_at b q))

        go : (c : Call) (n : ℕ) → book_no g start b c ≡ n
            → one_if (is_averaged (word_at b q)) + after_call n (one_if (averages (q / (sizes_of g).pairs) c)) 0 ≡ one_if (is_averaged (word_at (after_call n (writes g b c) b) q))
        go (run worker t b1 b2) zero e = none (is_averaged (word_at b q)) ∙ ap one_if (at-run worker t b1 b2 (yes (run worker t b1 b2) e) (eqb q (piece_of (sizes_of g) t b1 b2)) refl)
        go (carry worker) zero e = none (is_averaged (word_at b q)) ∙ ap one_if (sym (ap is_averaged (get_or-map-lt carried b.words q fresh fresh (on_word g start b q h)) ∙ carried-averaged (word_at b q)))
        go (average t ids1 ids2) zero e =
            at-average t ids1 ids2 (yes (average t ids1 ids2) e) (eqb (q / (sizes_of g).pairs) (mag t)) refl
            ∙ ap (λ (w : Word). one_if (is_averaged w)) (sym (get_or-patch (λ q. eqb (q / (sizes_of g).pairs) (mag t)) (λ q. averaged_by ids1 ids2) b.words q fresh (on_word g start b q h)))
        go c (suc n) e = none (is_averaged (word_at b q))

    -- ---- a word is open afterwards where it was, and the call has not run its piece

    pub open_turn : (c : Call) → is_open (word_at (turn g start b c) q) ≡ (is_open (word_at b q) && not (after_call (book_no g start b c) (runs_piece g b q c) false))
    unfolding turn writes
    open_turn c = go c (book_no g start b c) refl
      where
        at-run : (worker t b1 b2 : ℤ) (u : Bool) → eqb q (piece_of (sizes_of g) t b1 b2) ≡ u
            → is_open (get_or (set b.words (piece_of (sizes_of g) t b1 b2) computed) q fresh) ≡ (is_open (word_at b q) && not u)
        at-run worker t b1 b2 true e =
            let p : q ≡ piece_of (sizes_of g) t b1 b2 = eqb-true q (piece_of (sizes_of g) t b1 b2) e in
            let w : get_or (set b.words (piece_of (sizes_of g) t b1 b2) computed) q fresh ≡ computed = rw (← p) (get_or-set_same b.words q computed fresh (on_word g start b q h)) in
            ap is_open w ∙ and-false (is_open (word_at b q))
        at-run worker t b1 b2 false e =
            ap is_open (get_or-set_other b.words (piece_of (sizes_of g) t b1 b2) q computed fresh (eqb-false q (piece_of (sizes_of g) t b1 b2) e)) ∙ and-true (is_open (word_at b q))

        at-average : (t : ℤ) (ids1 ids2 : List ℤ) → Accepted g (render g start b) (average t ids1 ids2) → (u : Bool) → eqb (q / (sizes_of g).pairs) (mag t) ≡ u
            → is_open (cond u (averaged_by ids1 ids2) (word_at b q)) ≡ is_open (word_at b q)
        at-average t ids1 ids2 a true e = sym (ap is_open (average-computed t ids1 ids2 a (eqb-true (q / (sizes_of g).pairs) (mag t) e)))
        at-average t ids1 ids2 a false e = refl

        go : (c : Call) (n : ℕ) → book_no g start b c ≡ n
            → is_open (word_at (after_call n (writes g b c) b) q) ≡ (is_open (word_at b q) && not (after_call n (runs_piece g b q c) false))
        go (run worker t b1 b2) zero e = at-run worker t b1 b2 (eqb q (piece_of (sizes_of g) t b1 b2)) refl
        go (carry worker) zero e = ap is_open (get_or-map-lt carried b.words q fresh fresh (on_word g start b q h)) ∙ carried-open (word_at b q)
        go (average t ids1 ids2) zero e =
            ap is_open (get_or-patch (λ q. eqb (q / (sizes_of g).pairs) (mag t)) (λ q. averaged_by ids1 ids2) b.words q fresh (on_word g start b q h))
            ∙ at-average t ids1 ids2 (yes (average t ids1 ids2) e) (eqb (q / (sizes_of g).pairs) (mag t)) refl
            ∙ and-true (is_open (word_at b q))
        go c (suc n) e = and-true (is_open (word_at b q))
