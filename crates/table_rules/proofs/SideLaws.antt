-- The side of a face on which a row lies, by the three tests, and counts of rows as the code makes them. Assumes nothing.
use mathlib.Core.Path.{◌≡◌, refl, sym, ◌∙◌, ap}
use mathlib.Core.Bool.{Bool, true, false}
use mathlib.Core.List.{List, []}
use Prim.Native.Nat.{ℕ, ◌+◌, ◌<◌, ◌≤◌}
use lib.IntN.{ℤ}
use lib.ListN.{get_or}
use Rattle.std.proofs.Common.{Option, Some, None}
use Rattle.std.specs.Int.{from_bool}
use Rattle.list_laws.proofs.CountedLaws.{counted_next}
use Rattle.table_rules.specs.Rows.{row_at, rows_of, spanned}
use Rattle.table_rules.specs.Faces.{corner, is_face, side, rows_with}
use Rattle.table_rules.proofs.RowLaws.{row-is}

module _ (row : List (List ℤ)) (a b : List ℤ) where
  pub side-third : is_face (corner row 1) (corner row 2) a b ≡ true → side row a b ≡ Some (spanned a b (corner row 3))
  unfolding side
  side-third e = rw e refl

  pub side-first : is_face (corner row 1) (corner row 2) a b ≡ false → is_face (corner row 2) (corner row 3) a b ≡ true → side row a b ≡ Some (spanned a b (corner row 1))
  unfolding side
  side-first e f = rw (e, f) refl

  pub side-second : is_face (corner row 1) (corner row 2) a b ≡ false → is_face (corner row 2) (corner row 3) a b ≡ false
      → is_face (corner row 3) (corner row 1) a b ≡ true → side row a b ≡ Some (spanned a b (corner row 2))
  unfolding side
  side-second e f g = rw (e, f, g) refl

  pub side-none : is_face (corner row 1) (corner row 2) a b ≡ false → is_face (corner row 2) (corner row 3) a b ≡ false
      → is_face (corner row 3) (corner row 1) a b ≡ false → side row a b ≡ None
  unfolding side
  side-none e f g = rw (e, f, g) refl

-- one more row: the count of those that have a face, by a test of their sides, stays small, and is that of the rows up to this one
pub next-row : (table a b : List ℤ) (test : Option ℤ → Bool) (s m : ℕ) → s < 24 → m ≡ rows_with test (rows_of table) a b s
    → (x : Option ℤ) → x ≡ side (row_at table s) a b → (passes : Bool) → passes ≡ test x → (one : ℕ) → one ≡ from_bool passes
    → (m + one ≤ s + 1) × (m + one ≡ rows_with test (rows_of table) a b (s + 1))
next-row table a b test s m h e x f passes g one k =
    counted_next s m (λ s. test (side (get_or (rows_of table) s []) a b)) passes e one k
    (g ∙ ap test (f ∙ ap (λ row. side row a b) (sym (row-is table s h))))
