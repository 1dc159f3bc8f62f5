-- What the two entries answer.
use Rattle.std.specs.Prelude.{List, [], ◌∷◌, ℕ, ℤ, Float}
use Rattle.std.specs.declared.result.Result.{Result}
use Rattle.list_laws.specs.Lists.{rows}
use Rattle.ask.specs.Ask.{Question, asks, first_no}
use Rattle.ask.specs.Refusals.{answer_of}
use Rattle.ask.specs.declared.refusal.Refusal.{Refusal}
use Rattle.common.specs.Matrix.{is_lattice}
use Rattle.tetrahedron_tables.specs.Tables.{table_of, flat}
use Rattle.relative_grid_address.specs.Diagonal.{main_diagonal_of}
use Rattle.relative_grid_address.specs.declared.NeighbourTable.{NeighbourTable}

-- The question of the choice of a table: "Are lattice entries finite, magnitude at most 2^30? No: 2."
abbrev pub lattice_questions : List (List Float) → List Question
lattice_questions a = asks 2 (is_lattice a) ∷ []

-- table i with its number
abbrev pub numbered_table : ℕ → NeighbourTable
numbered_table i = record { index = i; numbers = flat (table_of i) }

-- The answer: the table of the shortest main diagonal with its number, or the refusal.
unfoldable pub table_answer : List (List Float) → Result NeighbourTable Refusal
table_answer a = answer_of (first_no (lattice_questions a)) (numbered_table (main_diagonal_of a))

-- the four tables, one after the other
unfoldable pub all_tables : List ℤ
all_tables = rows 4 (λ i. flat (table_of i))
