-- The four tables in use pass questions 7, 23, 24 and 25: tests that are computed. Assumes nothing.
use mathlib.Core.Path.{◌≡◌, refl, ◌∙◌, ap}
use mathlib.Core.Bool.{Bool, true, ◌&&◌}
use mathlib.Core.List.{List, flatten}
use Prim.Native.Nat.{ℕ, zero, suc, ◌<◌}
use lib.IntN.{ℤ}
use Rattle.list_laws.specs.Lists.{all_below, count_below, tabulate}
use Rattle.list_laws.specs.Signed.{within}
use Rattle.list_laws.proofs.BelowLaws.{below_at}
use Rattle.list_laws.proofs.BoolLaws.{and_left, and_right}
use Rattle.ask.specs.Ask.{first_no}
use Rattle.question_grids.specs.Grids.{are_triples}
use Rattle.question_grids.specs.Tables.{is_table}
use Rattle.tetrahedron_tables.specs.Tables.{table0, table1, table2, table3, table_of, flat, row_ok, det}
use Rattle.table_rules.specs.Rows.{rows_of, are_unit_rows, are_small}
use Rattle.table_rules.specs.Faces.{is_same, is_face, side, is_paired, is_row_paired, are_paired}
use Rattle.table_rules.specs.Cones.{is_one_sign, is_inside, is_in_one}
use Rattle.table_rules.specs.Questions.{table_questions}

-- the flat list of a table gives its rows back
pub rows-flat : (t : ℕ) → rows_of (flat (table_of t)) ≡ table_of t
unfolding tabulate flatten table0 table1 table2 table3 table_of flat rows_of
rows-flat zero = refl
rows-flat (suc zero) = refl
rows-flat (suc (suc zero)) = refl
rows-flat (suc (suc (suc t))) = refl

-- the tests of the numbers: questions 7 and 23
abbrev has_numbers : List ℤ → Bool
has_numbers table = is_table table && are_unit_rows table

-- and those of the rows: questions 24 and 25
abbrev has_fan : List (List (List ℤ)) → Bool
has_fan rows = are_paired rows && is_in_one rows

-- the tests, computed
tables_pass : all_below 4 (λ t. has_numbers (flat (table_of t)) && has_fan (table_of t)) ≡ true
unfolding all_below count_below within flatten are_triples is_table det row_ok table0 table1 table2 table3 table_of flat are_small are_unit_rows is_same is_face side is_paired is_row_paired are_paired is_one_sign is_inside is_in_one
tables_pass = refl

module _ (t : ℕ) (h : t < 4) where
  passes : (has_numbers (flat (table_of t)) && has_fan (table_of t)) ≡ true
  passes = below_at 4 (λ t. has_numbers (flat (table_of t)) && has_fan (table_of t)) tables_pass t h

  numbers : has_numbers (flat (table_of t)) ≡ true
  numbers = and_left _ (has_fan (table_of t)) passes

  fan : has_fan (table_of t) ≡ true
  fan = and_right (has_numbers (flat (table_of t))) _ passes

  pub table-is_table : is_table (flat (table_of t)) ≡ true
  table-is_table = and_left _ (are_unit_rows (flat (table_of t))) numbers

  pub table-unit_rows : are_unit_rows (flat (table_of t)) ≡ true
  table-unit_rows = and_right (is_table (flat (table_of t))) _ numbers

  pub table-paired : are_paired (rows_of (flat (table_of t))) ≡ true
  table-paired = ap are_paired (rows-flat t) ∙ and_left _ (is_in_one (table_of t)) fan

  pub table-in_one : is_in_one (rows_of (flat (table_of t))) ≡ true
  table-in_one = ap is_in_one (rows-flat t) ∙ and_right (are_paired (table_of t)) _ fan

  -- so no question refuses a table in use
  pub table-passes : first_no (table_questions (flat (table_of t))) ≡ 0
  unfolding first_no
  table-passes = rw (table-is_table, table-unit_rows, table-paired, table-in_one) refl
