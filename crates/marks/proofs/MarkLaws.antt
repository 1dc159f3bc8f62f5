-- Reading, counting and setting marks. Assumes nothing.
use mathlib.Core.Path.{◌≡◌, refl, sym, ◌∙◌}
use mathlib.Core.Bool.{Bool, true, false, cond}
use mathlib.Core.List.{List}
use Prim.Native.Nat.{ℕ, ◌+◌, ◌*◌, ◌/◌, ◌%◌, ◌≤◌, ◌<◌}
use native.Mathlib.Nat.{mod-lt, div-add-mod'}
use native.Mathlib.Omega.{arith}
use lib.Arith.{digits_div, digits_mod}
use lib.Dec.{eqb, ltb}
use lib.ListN.{length}
use borrow.Author.Tests.{eq-eqb, lt-ltb, le-ltb, ltb-true, ltb-false, eqb-true, eqb-false}
use Rattle.list_laws.proofs.BoolLaws.{clash}
use Rattle.marks.specs.Bytes.{mark_at, patch_marks, places_in, IsMark}
use Rattle.marks.specs.Marks.{is_open_mark, is_open_at, alike, averaged_marks, carried_marks, closed}
use Rattle.marks.proofs.BytesLaws.{small-mark, mark-lt, length-marks, mark-patch, marks-twice, marks-none, marks-ext}

-- the first place of a row is not beyond
pub row-start : (q b n : ℕ) → q < n → q / b * b < n
row-start q b n h = omega (arith, div-add-mod' q b)

-- ---- the marks of a triplet, the first n of them set to 2

unfoldable pub some_averaged : ℕ → ℕ → ℕ → List ℕ → List ℕ
some_averaged b t n m = patch_marks (λ q. cond (eqb (q / b) t) (ltb (q % b) n) false) (λ q. 2) m

module _ (b t : ℕ) (m : List ℕ) where
  pub averaged-none : m ≡ some_averaged b t 0 m
  unfolding some_averaged
  averaged-none = sym (marks-none _ _ m (λ q _. go (eqb (q / b) t) (q % b)))
    where
      go : (u : Bool) (x : ℕ) → cond u (ltb x 0) false ≡ false
      go true x = le-ltb x 0 (omega arith)
      go false x = refl

  pub averaged-more : (n : ℕ) → n < b → patch_marks (λ p. eqb p (t * b + n)) (λ p. 2) (some_averaged b t n m) ≡ some_averaged b t (n + 1) m
  unfolding some_averaged
  averaged-more n h =
      marks-twice _ _ _ _ m _ _ (λ q _. small-mark 2 (omega arith)) (λ q _. at (mark_at m q) q (eqb q (t * b + n)) refl)
    where
      go : (q : ℕ) → (q ≡ t * b + n → ⊥) → (u : Bool) → eqb (q / b) t ≡ u → (v : Bool) → ltb (q % b) n ≡ v → cond u (ltb (q % b) (n + 1)) false ≡ cond u v false
      go q ne false e v g = refl
      go q ne true e true g = let g' : q % b < n = ltb-true (q % b) n g in lt-ltb (q % b) (n + 1) (omega arith)
      go q ne true e false g =
          let g' : n ≤ q % b = ltb-false (q % b) n g in
          let e' : q / b ≡ t = eqb-true (q / b) t e in
          let z : q % b ≡ n → ⊥ = λ y. ne (sym (div-add-mod' q b) ∙ rw (e', y)) in
          le-ltb (q % b) (n + 1) (omega arith)

      at : (x q : ℕ) (u : Bool) → eqb q (t * b + n) ≡ u
          → cond u 2 (cond (cond (eqb (q / b) t) (ltb (q % b) n) false) 2 x) ≡ cond (cond (eqb (q / b) t) (ltb (q % b) (n + 1)) false) 2 x
      at x q true e = let f : q ≡ t * b + n = eqb-true q (t * b + n) e in
          rw (f, digits_div t h, digits_mod t h, eq-eqb t t refl, lt-ltb n (n + 1) (omega arith))
      at x q false e = rw (go q (eqb-false q (t * b + n) e) (eqb (q / b) t) refl (ltb (q % b) n) refl)

  pub averaged-length : (n : ℕ) → length (some_averaged b t n m) ≡ length m
  unfolding some_averaged
  averaged-length n = length-marks _ _ m

  pub averaged-all : (n : ℕ) → n ≡ b → 0 < b → some_averaged b t n m ≡ averaged_marks b t m
  unfolding some_averaged averaged_marks
  averaged-all n e hb =
      marks-ext _ _ _ _ m
      (λ q _. let s : cond (eqb (q / b) t) (ltb (q % b) n) false ≡ eqb (q / b) t = rw (e, lt-ltb (q % b) b (mod-lt q hb)) (flat (eqb (q / b) t)) in rw s)
    where
      flat : (u : Bool) → cond u true false ≡ u
      flat true = refl
      flat false = refl

-- ---- lengths, and marks that are closed

pub closed-lt : (mark : ℕ) → IsMark mark → IsMark (closed mark)
closed-lt mark h = go (eqb mark 0)
  where
    go : (u : Bool) → IsMark (cond u 1 mark)
    go true = small-mark 1 (omega arith)
    go false = h

pub length-carried : (pieces : ℕ) (marks : List ℕ) → length (carried_marks pieces marks) ≡ length marks
unfolding carried_marks
length-carried pieces marks = length-marks _ _ marks

pub length-averaged : (pairs t : ℕ) (marks : List ℕ) → length (averaged_marks pairs t marks) ≡ length marks
unfolding averaged_marks
length-averaged pairs t marks = length-marks _ _ marks

-- the mark of one of the pieces after a carry-on
pub carried-mark : (pieces q : ℕ) (marks : List ℕ) → q < pieces → q < places_in marks → mark_at (carried_marks pieces marks) q ≡ closed (mark_at marks q)
unfolding carried_marks
carried-mark pieces q marks h l =
    mark-patch (λ q. ltb q pieces) (λ q. closed (mark_at marks q)) marks (λ q _. closed-lt (mark_at marks q) (mark-lt marks q)) q l ∙ rw (lt-ltb q pieces h)

-- a mark after an averaging
pub averaged-mark : (pairs t q : ℕ) (marks : List ℕ) → q < places_in marks → mark_at (averaged_marks pairs t marks) q ≡ cond (eqb (q / pairs) t) 2 (mark_at marks q)
unfolding averaged_marks
averaged-mark pairs t q marks l = mark-patch (λ q. eqb (q / pairs) t) (λ q. 2) marks (λ q _. small-mark 2 (omega arith)) q l

-- a piece whose mark is 0 is open where it is one of the pieces
pub open_at : (pieces q : ℕ) (marks : List ℕ) → q < pieces → is_open_at pieces marks q ≡ is_open_mark marks q
unfolding is_open_at
open_at pieces q marks h = rw (lt-ltb q pieces h)

-- ---- both or neither

pub alike_same : (a b : Bool) → alike a b ≡ true → a ≡ b
unfolding alike
alike_same true true e = refl
alike_same true false e = clash e
alike_same false true e = clash e
alike_same false false e = refl
