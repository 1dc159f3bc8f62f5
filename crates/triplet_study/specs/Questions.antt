-- The questions of a study: 3 to 11, and 12 of its weights and flags.
use Rattle.std.specs.Prelude.{Bool, ◌&&◌, List, [], ◌∷◌, ◌++◌, ℕ, ◌+◌, ◌*◌, ◌/◌, ◌%◌, eqb, ℤ, pos, Float, length}
use Rattle.std.specs.Int.Signed.{mag}
use Rattle.ask.specs.Ask.{Question, asks}
use Rattle.question_values.specs.Counts.{are_counts, is_product}
use Rattle.question_values.specs.Frequencies.{are_frequencies, are_points}
use Rattle.question_grids.specs.Grids.{triples_in, mesh_questions, place_questions}
use Rattle.question_grids.specs.Tables.{is_table}
use Rattle.question_grids.specs.Steps.{are_grid_points}
use Rattle.question_values.specs.TpTypes.{is_tp_type}
use Rattle.triplet_study.specs.declared.Sizes.{Sizes}
use Rattle.triplet_study.specs.Study.{Study}

-- how many triplets a flat list holds, an unfinished one counted
abbrev pub triplets_in : List ℤ → ℕ
triplets_in triplets = (length triplets + 2) / 3

-- Question 10: "Is .. all three of each triplet, 0 to P-1?"
unfoldable pub are_triplets : ℕ → List ℤ → Bool
are_triplets p triplets = eqb (length triplets % 3) 0 && are_grid_points p triplets

-- Question 11: "Do frequencies hold P times bands values .., each zero or of magnitude 2^-600 to 2^30?"
unfoldable pub hold_frequencies : ℕ → ℕ → List Float → Bool
hold_frequencies p bands frequencies = is_product p bands (length frequencies) && are_frequencies frequencies

-- Question 11, of both lists of frequencies and the points
unfoldable pub are_study_frequencies : ℕ → ℕ → ℕ → List Float → List Float → List Float → Bool
are_study_frequencies p bands1 bands2 frequencies1 frequencies2 points =
    (hold_frequencies p bands1 frequencies1 && hold_frequencies p bands2 frequencies2) && are_points points

-- 7, of the table
abbrev pub table_questions : List ℤ → List Question
table_questions steps = asks 7 (is_table steps) ∷ []

-- 8 to 11, P being the count of addresses
abbrev pub value_questions : ℕ → ℤ → ℤ → ℤ → List Float → List Float → List Float → List ℤ → List Question
value_questions p type bands1 bands2 frequencies1 frequencies2 points triplets =
    asks 8 (is_tp_type type)
    ∷ asks 9 (are_counts bands1 bands2 (pos (length points)) (pos (triplets_in triplets)))
    ∷ asks 10 (are_triplets p triplets)
    ∷ asks 11 (are_study_frequencies p (mag bands1) (mag bands2) frequencies1 frequencies2 points)
    ∷ []

-- the same of a study's lists, on a grid of p addresses
abbrev pub values_asked : ℕ → Study → List Question
values_asked p s =
    value_questions p s.shape.tp_type s.shape.num_band1 s.shape.num_band2
    s.frequencies1 s.frequencies2 s.points s.triplets

-- The questions on a study, 3 to 11, in their order: the mesh, the places on it, the table, the values.
abbrev pub study_questions : Study → List Question
study_questions s =
    mesh_questions s.shape.bz_grid_type s.shape.d_diag
    ++ (place_questions s.shape.bz_grid_type s.shape.d_diag s.addresses s.gp-map
    ++ (table_questions s.steps ++ values_asked (triples_in s.addresses) s))

-- Question 12, of weights and flags: "Is each lent buffer exactly as long as its record?"
unfoldable pub are_lengths : Sizes → ℕ → ℕ → Bool
are_lengths z weights flags = eqb weights (z.channels * z.cells) && eqb flags z.cells
