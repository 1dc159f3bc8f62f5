-- Questions 8 and 9 of a sheet's type and counts, and how many entries and weights they make.
use Rattle.std.specs.Prelude.{Bool, List, [], ◌∷◌, ℕ, ◌*◌, ℤ}
use Rattle.std.specs.Int.Signed.{mag}
use Rattle.ask.specs.Ask.{Question, asks}
use Rattle.question_values.specs.Counts.{are_counts, cell_count}
use Rattle.question_values.specs.TpTypes.{is_tp_type, channels_of}
use Rattle.sheet_counts.specs.declared.Counts.{Counts}

-- Question 9, of the counts of a sheet
unfoldable pub are_sheet_counts : Counts → Bool
are_sheet_counts c = are_counts c.num_band1 c.num_band2 c.num_band0 c.num_triplets

-- 8 the type, 9 the counts
abbrev pub count_questions : ℤ → Counts → List Question
count_questions type c = asks 8 (is_tp_type type) ∷ asks 9 (are_sheet_counts c) ∷ []

-- how many entries a triplet has: one for each point, b1, b2
unfoldable pub cells_per_triplet : Counts → ℕ
cells_per_triplet c = cell_count c.num_band0 c.num_band1 c.num_band2

-- how many entries a sheet has, by triplet, point, b1, b2
abbrev pub cells_of : Counts → ℕ
cells_of c = mag c.num_triplets * cells_per_triplet c

-- how many weights: one in each channel for each entry
abbrev pub weight_count_of : ℤ → Counts → ℕ
weight_count_of type c = channels_of type * cells_of c
