-- The open pieces of a carry-on, one more at a time. Assumes nothing.
use mathlib.Core.Path.{◌≡◌, refl, sym}
use mathlib.Core.Bool.{Bool, true, false, ◌&&◌, cond}
use mathlib.Core.List.{List}
use mathlib.Core.Logic.{◌⊎◌, inl, inr}
use Prim.Native.Nat.{ℕ, ◌+◌, ◌<◌}
use native.Mathlib.Omega.{arith}
use borrow.Author.Tests.{eq-eqb, ne_eqb, lt-ltb, le-ltb, eqb-true}
use lib.Dec.{eqb, ltb}
use Rattle.list_laws.proofs.BoolLaws.{lt-eq-gt}
use Rattle.marks.specs.Bytes.{mark_at, patch_marks, IsMark}
use Rattle.marks.specs.Marks.{is_open_mark, is_open_at, closed, carried_marks}
use Rattle.marks.proofs.BytesLaws.{mark-lt, mark-kept, marks-ext, marks-keep, marks-none, marks-twice}
use Rattle.marks.proofs.MarkLaws.{closed-lt}
use Rattle.sheet_fill.specs.Piece.{is_open_piece, closed_piece}

-- ---- no piece yet

pub open_none : (m : List ℕ) (n : ℕ) → is_open_at 0 m n ≡ false
unfolding is_open_at
open_none m n = rw (le-ltb n 0 (omega arith))

pub closed_none : (m : List ℕ) → m ≡ carried_marks 0 m
unfolding carried_marks
closed_none m = sym (marks-none _ _ m (λ q _. le-ltb q 0 (omega arith)))

-- ---- one piece: open, or not

module _ (m : List ℕ) (q : ℕ) where
  pub open-one : is_open_mark m q ≡ true → (p : ℕ) → p ≡ q → (n : ℕ) → eqb n p ≡ is_open_piece m q n
  unfolding is_open_piece
  open-one o p e n = rw e (go (eqb n q) refl)
    where
      go : (a : Bool) → eqb n q ≡ a → a ≡ (a && is_open_mark m n)
      go true f = let g : n ≡ q = eqb-true n q f in rw (g, o)
      go false f = refl

  pub shut_one : is_open_mark m q ≡ false → (n : ℕ) → is_open_piece m q n ≡ false
  unfolding is_open_piece
  shut_one o n = go (eqb n q) refl
    where
      go : (a : Bool) → eqb n q ≡ a → (a && is_open_mark m n) ≡ false
      go true f = let g : n ≡ q = eqb-true n q f in rw (g, o)
      go false f = refl

  pub closed-one : is_open_mark m q ≡ true → patch_marks (λ p. eqb p q) (λ p. 1) m ≡ closed_piece m q
  unfolding closed_piece is_open_mark
  closed-one o = marks-ext _ _ _ _ m (λ i _. go i (eqb i q) refl)
    where
      go : (i : ℕ) (b : Bool) → eqb i q ≡ b → cond b 1 (mark_at m i) ≡ cond b (closed (mark_at m i)) (mark_at m i)
      go i true f = let g : i ≡ q = eqb-true i q f in rw (g, o)
      go i false f = refl

  pub kept-one : is_open_mark m q ≡ false → m ≡ closed_piece m q
  unfolding closed_piece is_open_mark
  kept-one o = sym (marks-keep _ _ m (λ i _. go i (eqb i q) refl))
    where
      go : (i : ℕ) (b : Bool) → eqb i q ≡ b → cond b (closed (mark_at m i)) (mark_at m i) ≡ mark_at m i
      go i true f = let g : i ≡ q = eqb-true i q f in rw (g, o)
      go i false f = refl

-- ---- one piece more, by the marks that those before it left

module _ (m m' : List ℕ) (q : ℕ) (e : m' ≡ carried_marks q m) where
  small : (n : ℕ) → ltb n q ≡ true → IsMark (closed (mark_at m n))
  small n _ = closed-lt (mark_at m n) (mark-lt m n)

  -- the mark of a piece that is still to come
  still : (n : ℕ) → ltb n q ≡ false → mark_at (carried_marks q m) n ≡ mark_at m n
  unfolding carried_marks
  still n f = mark-kept (λ n. ltb n q) (λ n. closed (mark_at m n)) m small n f

  cond_same : (a : Bool) → cond a true false ≡ a
  cond_same true = refl
  cond_same false = refl

  pub open_more : (n : ℕ) → cond (is_open_piece m' q n) true (is_open_at q m n) ≡ is_open_at (q + 1) m n
  unfolding is_open_piece is_open_at is_open_mark
  open_more n = rw e (go (lt-eq-gt n q))
    where
      go : (n < q) ⊎ ((n ≡ q) ⊎ (q < n))
          → cond (eqb n q && eqb (mark_at (carried_marks q m) n) 0) true (ltb n q && eqb (mark_at m n) 0) ≡ (ltb n (q + 1) && eqb (mark_at m n) 0)
      go (inl l) = rw (ne_eqb n q (λ z. omega arith), lt-ltb n q l, lt-ltb n (q + 1) (omega arith))
      go (inr (inl z)) =
          let f : ltb n q ≡ false = le-ltb n q (omega arith) in
          rw (eq-eqb n q z, still n f, f, lt-ltb n (q + 1) (omega arith)) (cond_same (eqb (mark_at m n) 0))
      go (inr (inr l)) = rw (ne_eqb n q (λ z. omega arith), le-ltb n q (omega arith), le-ltb n (q + 1) (omega arith))

  pub closed-more : closed_piece m' q ≡ carried_marks (q + 1) m
  unfolding closed_piece carried_marks
  closed-more = rw e (marks-twice (λ n. ltb n q) (λ n. closed (mark_at m n)) (λ n. eqb n q) (λ n. closed (mark_at (carried_marks q m) n)) m (λ n. ltb n (q + 1)) (λ n. closed (mark_at m n)) small (λ n _. go n (lt-eq-gt n q)))
    where
      go : (n : ℕ) → (n < q) ⊎ ((n ≡ q) ⊎ (q < n))
          → cond (eqb n q) (closed (mark_at (carried_marks q m) n)) (cond (ltb n q) (closed (mark_at m n)) (mark_at m n)) ≡ cond (ltb n (q + 1)) (closed (mark_at m n)) (mark_at m n)
      go n (inl l) = rw (ne_eqb n q (λ z. omega arith), lt-ltb n q l, lt-ltb n (q + 1) (omega arith))
      go n (inr (inl z)) = rw (eq-eqb n q z, still n (le-ltb n q (omega arith)), lt-ltb n (q + 1) (omega arith))
      go n (inr (inr l)) = rw (ne_eqb n q (λ z. omega arith), le-ltb n q (omega arith), le-ltb n (q + 1) (omega arith))
