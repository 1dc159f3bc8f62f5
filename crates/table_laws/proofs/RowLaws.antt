-- What the answer yes to question 23 says of a table, and that it says no more. Assumes nothing.
use mathlib.Core.Path.{◌≡◌, refl, sym, ◌∙◌, ap}
use mathlib.Core.Bool.{Bool, true, false, ◌&&◌, ◌||◌}
use mathlib.Core.List.{List, [], ◌∷◌}
use mathlib.Core.Logic.{◌⊎◌, inl, inr, ⊎_elim}
use Prim.Native.Nat.{ℕ, ◌+◌, ◌*◌, ◌<◌}
use lib.IntN.{ℤ, pos, negsuc}
use lib.ListN.{length, get_or}
use borrow.Author.Tests.{eq-eqb, leb-true, le-leb}
use Rattle.list_laws.specs.Lists.{at}
use Rattle.list_laws.specs.Signed.{eq_z, within}
use Rattle.list_laws.proofs.BelowLaws.{below_at, below_all}
use Rattle.list_laws.proofs.BoolLaws.{and_left, and_right, and_both}
use Rattle.list_laws.proofs.EqualLaws.{equal_is}
use Rattle.tetrahedron_tables.specs.Tables.{det, row_ok}
use Rattle.table_rules.specs.Rows.{row_at, are_small, are_unit_rows}
use Rattle.table_rules.specs.Faces.{corner}
use Rattle.table_rules.proofs.RowLaws.{unit_length, unit-small, unit-row}
use Rattle.table_laws.specs.Meaning.{UnitRows}

-- ---- one row

is_origin : List ℤ → Bool
unfolding row_ok
is_origin a = eq_z (get_or a 0 (pos 1)) (pos 0) && (eq_z (get_or a 1 (pos 1)) (pos 0) && eq_z (get_or a 2 (pos 1)) (pos 0))

is_unit : ℤ → Bool
is_unit d = eq_z d (pos 1) || eq_z d (negsuc 0)

row-is : (row : List (List ℤ)) → row_ok row ≡ (is_origin (get_or row 0 []) && is_unit (det row))
unfolding row_ok is_origin is_unit
row-is row = refl

is-one : (d : ℤ) → is_unit d ≡ true → (d ≡ pos 1) ⊎ (d ≡ negsuc 0)
unfolding is_unit
is-one d e = by (eq_z d (pos 1)) (eq_z d (negsuc 0)) (equal_is d (pos 1)) (equal_is d (negsuc 0)) e
  where
    by : (s t : Bool) → (s ≡ true → d ≡ pos 1) → (t ≡ true → d ≡ negsuc 0) → s || t ≡ true → (d ≡ pos 1) ⊎ (d ≡ negsuc 0)
    by true t f g e = inl (f refl)
    by false t f g e = inr (g e)

one-is : (d : ℤ) → (d ≡ pos 1) ⊎ (d ≡ negsuc 0) → is_unit d ≡ true
unfolding is_unit
one-is d s = ⊎_elim (λ e. rw e refl) (λ e. rw e refl) s

-- ---- a table

abbrev rows_ok : List ℤ → ℕ → Bool
rows_ok table r = row_ok (row_at table r)

module _ (table : List ℤ) where
  -- what a yes says
  module _ (e : are_unit_rows table ≡ true) where
    row : (r : ℕ) → r < 24 → (is_origin (corner (row_at table r) 0) && is_unit (det (row_at table r))) ≡ true
    row r h = sym (row-is (row_at table r)) ∙ unit-row table e r h

    starts : (r : ℕ) → r < 24 → is_origin (corner (row_at table r) 0) ≡ true
    starts r h = and_left _ (is_unit (det (row_at table r))) (row r h)

    pub unit-rows : UnitRows table
    unfolding are_small within is_origin
    unit-rows = record {
      size = unit_length table e;
      small = λ k h. leb-true _ 2 (below_at (length table) (λ k. within 2 (at table k)) (unit-small table e) k h);
      first_corner = λ r h.
          let rest : (eq_z (at table (r * 4 * 3 + 1)) (pos 0) && eq_z (at table (r * 4 * 3 + 2)) (pos 0)) ≡ true = and_right (eq_z (at table (r * 4 * 3)) (pos 0)) _ (starts r h) in
          λ i.
          equal_is (at table (r * 4 * 3)) (pos 0) (and_left _ (eq_z (at table (r * 4 * 3 + 1)) (pos 0) && eq_z (at table (r * 4 * 3 + 2)) (pos 0)) (starts r h)) i
          ∷ equal_is (at table (r * 4 * 3 + 1)) (pos 0) (and_left _ (eq_z (at table (r * 4 * 3 + 2)) (pos 0)) rest) i
          ∷ equal_is (at table (r * 4 * 3 + 2)) (pos 0) (and_right (eq_z (at table (r * 4 * 3 + 1)) (pos 0)) _ rest) i
          ∷ [];
      volume = λ r h. is-one (det (row_at table r)) (and_right (is_origin (corner (row_at table r) 0)) _ (row r h));
    }

  -- and what gives a yes
  pub rows-unit : UnitRows table → are_unit_rows table ≡ true
  unfolding are_unit_rows are_small within is_origin
  rows-unit u =
      and_both
      (and_both (eq-eqb _ 288 u.size) (below_all (length table) (λ k. within 2 (at table k)) (λ k h. le-leb _ 2 (u.small k h))))
      (below_all 24 (rows_ok table) (λ r h.
      row-is (row_at table r) ∙ and_both (ap is_origin (u.first_corner r h)) (one-is (det (row_at table r)) (u.volume r h))))
