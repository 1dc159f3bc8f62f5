-- What the answer yes to question 23 says of a table: its length, its components, its corners and its rows. Assumes nothing.
use mathlib.Core.Path.{◌≡◌, refl}
use mathlib.Core.Bool.{Bool, true, false, ◌&&◌, ◌||◌}
use mathlib.Core.List.{List, [], ◌∷◌}
use mathlib.Core.Logic.{⊎_elim}
use Prim.Native.Nat.{ℕ, zero, suc, ◌<◌}
use native.Mathlib.Omega.{arith}
use borrow.Author.Tests.{eqb-true, eq-eqb, ne_eqb}
use lib.Dec.{eqb}
use lib.IntN.{ℤ, pos, negsuc}
use lib.ListN.{length, get_or}
use mir.Syntax.{w64}
use mir.Val.{to_z, of_z}
use mir.ValLaws.{to_z-of_z}
use Rattle.std.proofs.lemmas.List.{get_or_past, get_or_default}
use Rattle.list_laws.specs.Lists.{all_below, at}
use Rattle.list_laws.specs.Signed.{eq_z, within}
use Rattle.list_laws.proofs.BelowLaws.{below_at}
use Rattle.list_laws.proofs.BoolLaws.{and_left, and_right, lt-or-le}
use Rattle.list_laws.proofs.FillLaws.{tabulate-at}
use Rattle.tetrahedron_tables.specs.Tables.{det, row_ok}
use Rattle.table_rules.specs.Rows.{row_at, rows_of, are_small, are_unit_rows, spanned, AllWithin}
use Rattle.list_laws.proofs.WithinLaws.{wider, small-fits}

-- a component, and 0 past the end
pub small-at : (table : List ℤ) → are_small table ≡ true → AllWithin 2 table
unfolding are_small within
small-at table e k =
    ⊎_elim (λ h. below_at (length table) (λ k. within 2 (at table k)) e k h) (λ h. rw (get_or_past table k (pos 0) h) refl) (lt-or-le k (length table))

-- and as the machine reads it back
pub read-small : (table : List ℤ) → are_small table ≡ true → (k : ℕ) → within 2 (to_z w64 (of_z w64 (at table k))) ≡ true
read-small table e k = rw (to_z-of_z w64 (at table k) (small-fits 2 (at table k) (omega arith) (small-at table e k))) (small-at table e k)

-- three components of a corner
pub three-small : (x y z : ℤ) → within 2 x ≡ true → within 2 y ≡ true → within 2 z ≡ true → AllWithin 10000 (x ∷ y ∷ z ∷ [])
unfolding within
three-small x y z e f g zero = wider 2 10000 x e (omega arith)
three-small x y z e f g (suc zero) = wider 2 10000 y f (omega arith)
three-small x y z e f g (suc (suc zero)) = wider 2 10000 z g (omega arith)
three-small x y z e f g (suc (suc (suc k))) = refl

-- the rule of a row, as its tests are made: corner 0 has three components
pub rule-is : (o a b c : List ℤ) → length o ≡ 3 → (x y z one minus : Bool) → x ≡ eq_z (at o 0) (pos 0) → y ≡ eq_z (at o 1) (pos 0) → z ≡ eq_z (at o 2) (pos 0)
    → one ≡ eq_z (spanned a b c) (pos 1) → minus ≡ eq_z (spanned a b c) (negsuc 0) → ((x && (y && z)) && (one || minus)) ≡ row_ok (o ∷ a ∷ b ∷ c ∷ [])
unfolding row_ok det
rule-is o a b c h x y z one minus ex ey ez eo em =
    rw (
      ex,
      ey,
      ez,
      eo,
      em,
      get_or_default o 0 (pos 1) (pos 0) (omega (arith, h)),
      get_or_default o 1 (pos 1) (pos 0) (omega (arith, h)),
      get_or_default o 2 (pos 1) (pos 0) (omega (arith, h)),
    ) refl

-- row r among the rows
pub row-is : (table : List ℤ) (r : ℕ) → r < 24 → get_or (rows_of table) r [] ≡ row_at table r
unfolding rows_of
row-is table r h = tabulate-at 24 (row_at table) [] r h

-- ---- the question, as it is asked

module _ (table : List ℤ) where
  pub unit-length-no : (length table ≡ 288 → ⊥) → are_unit_rows table ≡ false
  unfolding are_unit_rows
  unit-length-no h = rw (ne_eqb (length table) 288 h) refl

  pub unit-small-no : length table ≡ 288 → are_small table ≡ false → are_unit_rows table ≡ false
  unfolding are_unit_rows
  unit-small-no h e = rw (eq-eqb (length table) 288 h, e) refl

  pub unit-rows : length table ≡ 288 → are_small table ≡ true → are_unit_rows table ≡ all_below 24 (λ r. row_ok (row_at table r))
  unfolding are_unit_rows
  unit-rows h e = rw (eq-eqb (length table) 288 h, e) refl

-- ---- its answer yes

module _ (table : List ℤ) (e : are_unit_rows table ≡ true) where
  counted : (eqb (length table) 288 && are_small table) ≡ true
  unfolding are_unit_rows
  counted = and_left (eqb (length table) 288 && are_small table) (all_below 24 (λ r. row_ok (row_at table r))) e

  -- 24 rows of twelve numbers
  pub unit_length : length table ≡ 288
  unit_length = eqb-true (length table) 288 (and_left (eqb (length table) 288) (are_small table) counted)

  pub unit-small : are_small table ≡ true
  unit-small = and_right (eqb (length table) 288) (are_small table) counted

  -- the rule of each row
  pub unit-row : (r : ℕ) → r < 24 → row_ok (row_at table r) ≡ true
  unfolding are_unit_rows
  unit-row r h =
      below_at 24 (λ r. row_ok (row_at table r)) (and_right (eqb (length table) 288 && are_small table) (all_below 24 (λ r. row_ok (row_at table r))) e) r h
