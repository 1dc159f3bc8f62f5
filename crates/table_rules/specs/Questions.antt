-- The questions on a table of the caller's.
use Rattle.std.specs.Prelude.{List, [], ◌∷◌, ℤ}
use Rattle.ask.specs.Ask.{Question, asks}
use Rattle.question_grids.specs.Tables.{is_table}
use Rattle.table_rules.specs.Rows.{rows_of, are_unit_rows}
use Rattle.table_rules.specs.Faces.{are_paired}
use Rattle.table_rules.specs.Cones.{is_in_one}

-- in their order: "after question 7 .. else 23 .. else 24 .. else 25"
abbrev pub table_questions : List ℤ → List Question
table_questions table =
    asks 7 (is_table table) ∷ asks 23 (are_unit_rows table) ∷ asks 24 (are_paired (rows_of table)) ∷ asks 25 (is_in_one (rows_of table)) ∷ []
