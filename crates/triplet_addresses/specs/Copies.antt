-- Both copies of the neighbour table, for the second and for the third point of a triplet.
use Rattle.std.specs.Prelude.{Bool, List, [], ◌∷◌, ◌++◌, ℕ, ℤ, length}
use Rattle.ask.specs.Ask.{Question, asks}
use Rattle.question_values.specs.Counts.{is_product}
use Rattle.question_grids.specs.Tables.{is_table}
use Rattle.question_values.specs.TpTypes.{is_tp_type}
use Rattle.triplet_types.specs.Types.{tp_type_of}
use Rattle.triplet_corners.specs.Corners.{copy_of, second_steps}

-- the table, then its copy
abbrev pub copies_of : Bool → List ℤ → List ℤ
copies_of negated table = table ++ copy_of negated table

-- the first copy, then the second, for a type
abbrev pub both_copies : ℤ → List ℤ → List ℤ
both_copies t table = table ++ second_steps (tp_type_of t) table

-- The questions of `set_relative_grid_address`: 7 the table, 8 the type, 12 the buffer.
abbrev pub copy_questions : List ℤ → ℤ → ℕ → List Question
copy_questions table t out = asks 7 (is_table table) ∷ asks 8 (is_tp_type t) ∷ asks 12 (is_product 2 (length table) out) ∷ []
