-- The words of a book as marks, over the bytes of the start: what each kind of call makes of both. Assumes nothing.
use mathlib.Core.Path.{◌≡◌, refl, sym, ap, ◌∙◌}
use mathlib.Core.Bool.{Bool, true, false, cond}
use mathlib.Core.List.{List}
use mathlib.Core.Logic.{⊎_elim}
use Prim.Native.Nat.{ℕ, ◌/◌, ◌<◌, ◌≤◌}
use native.Mathlib.Omega.{arith}
use borrow.Author.Tests.{eqb-true, eqb-false, ltb-true, lt-ltb, le-ltb}
use lib.Dec.{eqb, ltb}
use lib.IntN.{ℤ}
use lib.ListN.{length, get_or, set, replicate, get_or-replicate, get_or-eq_default}
use lib.Seq.{get_or-set_same, get_or-set_other}
use Rattle.list_laws.specs.Lists.{count_below}
use Rattle.list_laws.specs.Patch.{patch}
use Rattle.list_laws.proofs.BoolLaws.{lt-or-le, clash}
use Rattle.list_laws.proofs.MapLaws.{count-ext}
use Rattle.list_laws.proofs.PatchLaws.{get_or-patch}
use Rattle.marks.specs.Bytes.{mark_at, patch_marks, places_in, zeros, IsMark}
use Rattle.marks.specs.Marks.{is_open_mark, open_pieces, carried_marks, averaged_marks, closed}
use Rattle.marks.proofs.BytesLaws.{small-mark, length-marks, mark-patch, mark-kept, zero-mark, marks-keep, marks-twice}
use Rattle.book_claim.specs.Book.{Word, fresh, computed, averaged_by, mark_of, is_open, carried, marks_of}

-- ---- a word and its mark

word-mark : (w : Word) → IsMark (mark_of w)
word-mark fresh = small-mark 0 (omega arith)
word-mark computed = small-mark 1 (omega arith)
word-mark (averaged_by ids1 ids2) = small-mark 2 (omega arith)

carried-mark : (w : Word) → closed (mark_of w) ≡ mark_of (carried w)
carried-mark fresh = refl
carried-mark computed = refl
carried-mark (averaged_by ids1 ids2) = refl

-- a mark 0 is an open word
pub open-mark : (w : Word) → eqb (mark_of w) 0 ≡ is_open w
open-mark fresh = refl
open-mark computed = refl
open-mark (averaged_by ids1 ids2) = refl

-- a mark 1 is a computed word
pub one-computed : (w : Word) → mark_of w ≡ 1 → w ≡ computed
one-computed fresh e = absurd (let z : ⊥ = omega arith in z)
one-computed computed e = refl
one-computed (averaged_by ids1 ids2) e = absurd (let z : ⊥ = omega arith in z)

-- ---- all of them

module _ (pieces : ℕ) (words : List Word) (start : List ℕ) where
  small : (q : ℕ) → ltb q pieces ≡ true → IsMark (mark_of (get_or words q fresh))
  small q e = word-mark (get_or words q fresh)

  pub length-words : length (marks_of pieces words start) ≡ length start
  unfolding marks_of
  length-words = length-marks _ _ start

  -- the mark of a piece is that of its word
  pub mark-word : (q : ℕ) → q < pieces → q < places_in start → mark_at (marks_of pieces words start) q ≡ mark_of (get_or words q fresh)
  unfolding marks_of
  mark-word q h l = mark-patch (λ q. ltb q pieces) (λ q. mark_of (get_or words q fresh)) start small q l ∙ rw (lt-ltb q pieces h)

  -- any write to pieces of the sheet, and the words that say the same
  pub write-words : (own : ℕ → Bool) (new : ℕ → ℕ) (after : List Word) → ((q : ℕ) → own q ≡ true → q < pieces)
      → ((q : ℕ) → q < pieces → q < places_in start → cond (own q) (new q) (mark_of (get_or words q fresh)) ≡ mark_of (get_or after q fresh))
      → patch_marks own new (marks_of pieces words start) ≡ marks_of pieces after start
  unfolding marks_of
  write-words own new after on h =
      marks-twice (λ q. ltb q pieces) (λ q. mark_of (get_or words q fresh)) own new start (λ q. ltb q pieces) (λ q. mark_of (get_or after q fresh)) small
      (λ q l. go q l (ltb q pieces) refl (own q) refl)
    where
      go : (q : ℕ) → q < places_in start → (t : Bool) → ltb q pieces ≡ t → (u : Bool) → own q ≡ u
          → cond u (new q) (cond t (mark_of (get_or words q fresh)) (mark_at start q)) ≡ cond t (mark_of (get_or after q fresh)) (mark_at start q)
      go q l true e u f = sym (ap (λ (v : Bool). cond v (new q) (mark_of (get_or words q fresh))) f) ∙ h q (ltb-true q pieces e) l
      go q l false e false f = refl
      go q l false e true f = clash (sym e ∙ lt-ltb q pieces (on q f))

  -- a run
  pub run-marks : (p : ℕ) → p < pieces → length words ≡ pieces → patch_marks (λ q. eqb q p) (λ q. 1) (marks_of pieces words start) ≡ marks_of pieces (set words p computed) start
  run-marks p h long =
      write-words (λ q. eqb q p) (λ q. 1) (set words p computed) (λ q e. let f : q ≡ p = eqb-true q p e in omega arith) (λ q _ _. go q (eqb q p) refl)
    where
      go : (q : ℕ) (t : Bool) → eqb q p ≡ t → cond t 1 (mark_of (get_or words q fresh)) ≡ mark_of (get_or (set words p computed) q fresh)
      go q true e = let f : q ≡ p = eqb-true q p e in rw (f, get_or-set_same words p computed fresh (omega arith))
      go q false e = rw (get_or-set_other words p q computed fresh (eqb-false q p e))

  -- an averaging
  pub average-marks : (pairs t : ℕ) (ids1 ids2 : List ℤ) → length words ≡ pieces → ((q : ℕ) → q / pairs ≡ t → q < pieces)
      → averaged_marks pairs t (marks_of pieces words start) ≡ marks_of pieces (patch (λ q. eqb (q / pairs) t) (λ q. averaged_by ids1 ids2) words) start
  unfolding averaged_marks
  average-marks pairs t ids1 ids2 long on =
      write-words (λ q. eqb (q / pairs) t) (λ q. 2) _ (λ q e. on q (eqb-true (q / pairs) t e))
      (λ q l _. rw (get_or-patch (λ q. eqb (q / pairs) t) (λ q. averaged_by ids1 ids2) words q fresh (omega arith)) (go (eqb (q / pairs) t) (get_or words q fresh)))
    where
      go : (t : Bool) (w : Word) → cond t 2 (mark_of w) ≡ mark_of (cond t (averaged_by ids1 ids2) w)
      go true w = refl
      go false w = refl

  -- a carry-on: the words are map carried words, so that their entries are these
  pub carry-marks : (after : List Word) → ((q : ℕ) → q < pieces → get_or after q fresh ≡ carried (get_or words q fresh))
      → carried_marks pieces (marks_of pieces words start) ≡ marks_of pieces after start
  unfolding carried_marks
  carry-marks after h =
      write-words (λ q. ltb q pieces) (λ q. closed (mark_at (marks_of pieces words start) q)) after (λ q e. ltb-true q pieces e)
      (λ q l k. rw (lt-ltb q pieces l, mark-word q l k, h q l) (carried-mark (get_or words q fresh)))

  -- the open pieces of the words are those of the marks
  pub open-count : pieces ≤ places_in start → open_pieces pieces (marks_of pieces words start) ≡ count_below pieces (λ q. is_open (get_or words q fresh))
  unfolding open_pieces is_open_mark
  open-count k =
      count-ext pieces (is_open_mark (marks_of pieces words start)) (λ q. is_open (get_or words q fresh)) (λ q l. rw (mark-word q l (omega arith)) (open-mark (get_or words q fresh)))

-- ---- over bytes all 0

-- every place, also one of no piece
pub unmarked-word : (pieces : ℕ) (words : List Word) (start : List ℕ) → length words ≡ pieces → start ≡ zeros (length start) → (q : ℕ) → q < places_in start
    → mark_at (marks_of pieces words start) q ≡ mark_of (get_or words q fresh)
unfolding marks_of
unmarked-word pieces words start long o q l =
    ⊎_elim (λ h. mark-word pieces words start q h l)
    (λ h. mark-kept (λ q. ltb q pieces) (λ q. mark_of (get_or words q fresh)) start (small pieces words start) q (le-ltb q pieces h)
    ∙ ap (λ (m : List ℕ). mark_at m q) o ∙ zero-mark (length start) q (rw o at l)
    ∙ sym (ap mark_of (get_or-eq_default words fresh {n = q} (omega (arith, h, long)))))
    (lt-or-le q pieces)

-- an open book stands for them, however many
pub opened-marks : (pieces n : ℕ) → marks_of pieces (replicate pieces fresh) (zeros n) ≡ zeros n
unfolding marks_of
opened-marks pieces n =
    marks-keep (λ q. ltb q pieces) (λ q. mark_of (get_or (replicate pieces fresh) q fresh)) (zeros n)
    (λ q l. rw (zero-mark n q l) (go q (ltb q pieces) refl))
  where
    go : (q : ℕ) (t : Bool) → ltb q pieces ≡ t → cond t (mark_of (get_or (replicate pieces fresh) q fresh)) 0 ≡ 0
    go q true e = rw (get_or-replicate pieces q fresh fresh (ltb-true q pieces e))
    go q false e = refl
