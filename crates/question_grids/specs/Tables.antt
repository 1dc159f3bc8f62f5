-- Question 7: the neighbour table.
use Rattle.std.specs.Prelude.{Bool, ◌&&◌, List, ℕ, ◌/◌, ℤ, length}
use Rattle.question_grids.specs.Grids.{are_triples}
use Rattle.question_values.specs.Rows.{has_rows}

-- Question 7: "Has the table 24, 48, 72 or 96 rows .., components within ±4,096?", four corners of three numbers to a row
unfoldable pub is_table : List ℤ → Bool
is_table table = has_rows 12 (length table) && are_triples table

-- how many rows a table has
abbrev pub rows_in : List ℤ → ℕ
rows_in table = length table / 12
