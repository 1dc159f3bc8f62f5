-- What the answer yes to question 7 says of a table: its count of rows and its components. Assumes nothing.
use mathlib.Core.Path.{◌≡◌}
use mathlib.Core.Bool.{true}
use mathlib.Core.List.{List}
use Prim.Native.Nat.{ℕ, zero, suc, ◌*◌, ◌<◌, ◌≤◌}
use native.Mathlib.Omega.{arith}
use lib.IntN.{ℤ}
use lib.ListN.{length}
use Rattle.list_laws.proofs.BoolLaws.{clash, and_left, and_right}
use Rattle.question_grids.specs.Grids.{are_triples, triples_in}
use Rattle.question_values.specs.Rows.{has_rows}
use Rattle.question_grids.specs.Tables.{is_table, rows_in}
use Rattle.question_values.proofs.RowsLaws.{rows_in_lem}

some-rows : (n : ℕ) → has_rows 12 n ≡ true → 0 < n
some-rows zero e = clash e
some-rows (suc n) e = omega arith

module _ (table : List ℤ) (e : is_table table ≡ true) where
  pub table-triples : are_triples table ≡ true
  unfolding is_table
  table-triples = and_right (has_rows 12 (length table)) (are_triples table) e

  counted : (rows : ℕ) × ((rows ≤ 96) × (length table ≡ rows * 12))
  unfolding is_table
  counted = rows_in_lem 12 (length table) (and_left (has_rows 12 (length table)) (are_triples table) e)

  -- at most 96 rows
  pub rows-most : rows_in table ≤ 96
  rows-most = let k : ℕ = counted.0 in omega (arith, counted.1.0, counted.1.1)

  -- twelve numbers to a row
  pub rows_whole : length table ≡ rows_in table * 12
  rows_whole = let k : ℕ = counted.0 in omega (arith, counted.1.0, counted.1.1)

  -- four corners to a row
  pub corners-whole : triples_in table ≡ rows_in table * 4
  corners-whole = omega (arith, rows_whole)

  -- it is not empty
  pub table-some : 0 < length table
  unfolding is_table
  table-some = some-rows (length table) (and_left (has_rows 12 (length table)) (are_triples table) e)

-- by one name, for the attributes of functions
pub ruleset table_laws = (table-some)
