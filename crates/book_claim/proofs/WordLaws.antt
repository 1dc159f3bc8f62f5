-- An entry before and after a word is written, for each kind of call. Assumes nothing.
use mathlib.Core.Path.{◌≡◌, refl, sym}
use mathlib.Core.Bool.{Bool, true, false, cond}
use mathlib.Core.List.{List, map}
use Prim.Native.Nat.{ℕ, ◌/◌, ◌<◌}
use lib.Dec.{eqb}
use lib.IntN.{ℤ}
use lib.ListN.{length, get_or, set}
use lib.Seq.{get_or-set_same, get_or-set_other}
use borrow.Author.Tests.{eqb-true, eqb-false, lt-ltb}
use Rattle.list_laws.specs.Patch.{patch}
use Rattle.list_laws.proofs.PatchLaws.{get_or-patch}
use Rattle.list_laws.proofs.MapLaws.{get_or-map-lt}
use Rattle.marks.specs.Bytes.{places_in}
use Rattle.marks.specs.Marks.{is_open_mark, is_open_at}
use Rattle.book_claim.proofs.MarkWords.{mark-word}
use Rattle.book_claim.specs.Book.{Word, fresh, computed, averaged_by, mark_of, carried, marks_of}

-- ---- one entry: v is what a run writes there, x what was there at the start, by w what a word w says

-- a run of piece q, at a place of piece n
pub run-entry : {A : Type 0} (l : List Word) (q n : ℕ) (by : Word → A → A) (v x : A) → q < length l → by computed x ≡ v
    → cond (eqb n q) v (by (get_or l n fresh) x) ≡ by (get_or (set l q computed) n fresh) x
run-entry l q n by v x h e = go (eqb n q) refl
  where
    go : (u : Bool) → eqb n q ≡ u → cond u v (by (get_or l n fresh) x) ≡ by (get_or (set l q computed) n fresh) x
    go true f = rw (eqb-true n q f, get_or-set_same l q computed fresh h) (sym e)
    go false f = rw (get_or-set_other l q n computed fresh (eqb-false n q f))

-- a carry-on
pub carry-entry : {A : Type 0} (l : List Word) (start : List ℕ) (pieces n : ℕ) (by : Word → A → A) (v x : A) → n < pieces → n < length l → n < places_in start → by computed x ≡ v
    → cond (is_open_at pieces (marks_of pieces l start) n) v (by (get_or l n fresh) x) ≡ by (get_or (map carried l) n fresh) x
unfolding is_open_at is_open_mark
carry-entry l start pieces n by v x k h b e = rw (lt-ltb n pieces k, mark-word pieces l start n k b, get_or-map-lt carried l n fresh fresh h) (go (get_or l n fresh))
  where
    go : (w : Word) → cond (eqb (mark_of w) 0) v (by w x) ≡ by (carried w) x
    go fresh = sym e
    go computed = refl
    go (averaged_by ids1 ids2) = refl

-- an averaging of triplet t
pub average-entry : {A : Type 0} (l : List Word) (n b t : ℕ) (ids1 ids2 : List ℤ) (by : Word → A → A) (v x : A) → n < length l
    → (n / b ≡ t → v ≡ by (averaged_by ids1 ids2) x)
    → cond (eqb (n / b) t) v (by (get_or l n fresh) x) ≡ by (get_or (patch (λ k. eqb (k / b) t) (λ k. averaged_by ids1 ids2) l) n fresh) x
average-entry l n b t ids1 ids2 by v x h e = rw (get_or-patch (λ k. eqb (k / b) t) (λ k. averaged_by ids1 ids2) l n fresh h) (go (eqb (n / b) t) refl)
  where
    go : (u : Bool) → eqb (n / b) t ≡ u → cond u v (by (get_or l n fresh) x) ≡ by (cond u (averaged_by ids1 ids2) (get_or l n fresh)) x
    go true f = e (eqb-true (n / b) t f)
    go false f = refl
