-- Laws of the flags of a block, and the averaging of flags as the walk over its blocks. Assumes nothing.
use mathlib.Core.Path.{◌≡◌, refl, sym, ap, ◌∙◌}
use mathlib.Core.Logic.{⊎_elim}
use mathlib.Core.Bool.{Bool, true, false, ◌||◌}
use mathlib.Core.List.{List}
use Prim.Native.Nat.{ℕ, zero, suc, ◌+◌, ◌-◌, ◌*◌, ◌≤◌, ◌<◌}
use native.Mathlib.Nat.{add_assoc}
use native.Mathlib.Omega.{arith}
use lib.IntN.{ℤ, pos}
use lib.ListN.{length, take, drop, length-drop}
use lib.Seq.{get_or-drop}
use Rattle.std.specs.List.{list_any}
use Rattle.std.specs.Ordering.{int_eq}
use Rattle.std.proofs.lemmas.Bool.Decides.{Decides-int_eq, same_from_decides}
use Rattle.std.proofs.lemmas.List.Folds.{list_any_more}
use Rattle.list_laws.specs.Lists.{at, part}
use Rattle.list_laws.specs.Signed.{eq_z}
use Rattle.list_laws.proofs.BoolLaws.{lt-or-le}
use Rattle.list_laws.proofs.EqualLaws.{equal_is}
use Rattle.list_laws.specs.Matrix.{Block}
use Rattle.degenerate_sets.specs.Turns.{Local}
use Rattle.degenerate_sets.proofs.AverageLaws.{averaged-length, averaged-in-turn}
use Rattle.averaging_flags.specs.Flags.{row_has_zero, rows_have_zero, has_zero, flag_in, averaged_flags, flags_in_turn}

or_true : (b : Bool) → (b || true) ≡ true
or_true true = refl
or_true false = refl

-- the test of a flag by `==`
pub equal-zero : (z : ℤ) → int_eq z (pos 0) ≡ eq_z z (pos 0)
equal-zero z = same_from_decides (int_eq z (pos 0)) (eq_z z (pos 0)) (Decides-int_eq z (pos 0)) (equal_is z (pos 0), λ e. ap (λ (w : ℤ). eq_z w (pos 0)) e)

module _ (m : List ℤ) where
  -- the test of a part of a list, one flag after another
  pub row-zero : (test : ℤ → Bool) → ((z : ℤ) → test z ≡ eq_z z (pos 0)) → (from w : ℕ) → from + w ≤ length m
      → list_any test (part from w m) ≡ row_has_zero m from w
  unfolding row_has_zero
  row-zero test same from zero h = refl
  row-zero test same from (suc w) h =
      let l : w < length (drop from m) = omega (arith, length-drop from m) in
      ap (λ (k : ℕ). list_any test (take k (drop from m))) {x = suc w} {y = w + 1} (omega arith)
      ∙ list_any_more test (drop from m) w (pos 0) l
      ∙ rw (row-zero test same from w (omega arith), get_or-drop from m w (pos 0), same (at m (from + w)))

module _ (m : List ℤ) (n top left wide : ℕ) where
  pub zero-none : rows_have_zero m n top left wide (top - top) ≡ false
  unfolding rows_have_zero
  zero-none = ap (rows_have_zero m n top left wide) {x = top - top} {y = 0} (omega arith)

  -- one row more has none
  pub zero-next : (r : ℕ) → top ≤ r → rows_have_zero m n top left wide (r - top) ≡ false → row_has_zero m (r * n + left) wide ≡ false
      → rows_have_zero m n top left wide (r + 1 - top) ≡ false
  unfolding rows_have_zero
  zero-next r h before here =
      let e : top + (r - top) ≡ r = omega arith in
      ap (rows_have_zero m n top left wide) {x = r + 1 - top} {y = suc (r - top)} (omega arith)
      ∙ ap (λ (b : Bool). b || row_has_zero m ((top + (r - top)) * n + left) wide) before
      ∙ ap (λ (x : ℕ). row_has_zero m (x * n + left) wide) e
      ∙ here

  -- a row that has one
  pub zero-at : (high i : ℕ) → i < high → row_has_zero m ((top + i) * n + left) wide ≡ true → rows_have_zero m n top left wide high ≡ true
  unfolding rows_have_zero
  zero-at zero i l h = absurd (omega arith)
  zero-at (suc high) i l h =
      ⊎_elim
      (λ g. rw (zero-at high i g h))
      (λ g.
      let e : i ≡ high = omega arith in
      ap (λ (x : ℕ). rows_have_zero m n top left wide high || row_has_zero m ((top + x) * n + left) wide) (sym e)
      ∙ ap (λ (b : Bool). rows_have_zero m n top left wide high || b) h
      ∙ or_true (rows_have_zero m n top left wide high))
      (lt-or-le i high)

module _ (n : ℕ) (b : Block) (m : List ℤ) (r c : ℕ) where
  pub flag-zero : has_zero n b m ≡ true → flag_in n b m r c ≡ pos 0
  unfolding flag_in
  flag-zero h = rw h

  pub flag-none : has_zero n b m ≡ false → flag_in n b m r c ≡ at m (r * n + c)
  unfolding flag_in
  flag-none h = rw h

-- ---- only the flags of the block count

module _ (m m' : List ℤ) where
  row-agree : (from w : ℕ) → ((j : ℕ) → j < w → at m (from + j) ≡ at m' (from + j)) → row_has_zero m from w ≡ row_has_zero m' from w
  unfolding row_has_zero
  row-agree from zero h = refl
  row-agree from (suc w) h = cc (row-agree from w (λ j l. h j (omega arith)), h w (omega arith))

  zero-agree : (n top left wide high : ℕ)
      → ((i j : ℕ) → i < high → j < wide → at m ((top + i) * n + (left + j)) ≡ at m' ((top + i) * n + (left + j)))
      → rows_have_zero m n top left wide high ≡ rows_have_zero m' n top left wide high
  unfolding rows_have_zero
  zero-agree n top left wide zero h = refl
  zero-agree n top left wide (suc high) h =
      cc (
        zero-agree n top left wide high (λ i j l g. h i j (omega arith) g),
        row-agree ((top + high) * n + left) wide (λ j g. rw add_assoc (h high j (omega arith) g)),
      )

pub flag-local : (n : ℕ) → Local (pos 0) n (flag_in n)
unfolding flag_in
flag-local n b m m' le h r c i =
    cc (
      zero-agree m m' n b.top b.left (b.right - b.left) (b.bottom - b.top)
          (λ i j l g. h (b.top + i) (b.left + j) (omega arith) (omega arith)),
      h r c (omega arith) i,
    )

-- a matrix keeps its length
pub flags-length : (n : ℕ) (ids1 ids2 m : List ℤ) → length (averaged_flags n ids1 ids2 m) ≡ n * n
flags-length n ids1 ids2 m = averaged-length flag_in n ids1 ids2 m

-- the averaging of flags is the walk over the blocks of the two id lists
pub flags-in-turn : (n : ℕ) (ids1 ids2 m : List ℤ) → length m ≡ n * n → averaged_flags n ids1 ids2 m ≡ flags_in_turn n ids1 ids2 m
flags-in-turn n ids1 ids2 m len = averaged-in-turn flag_in n ids1 ids2 m (pos 0) (flag-local n) len
