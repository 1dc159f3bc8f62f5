-- The answer to a text: what the program `weights` prints.
use Rattle.std.specs.Prelude.{◌≡◌, true, ◌≤◌, ◌/◌, List, [], ◌∷◌, ◌++◌, ℕ, Float, ℤ, length, get_or, drop, Option, Some, None}
use Rattle.std.specs.Float.{binary64}
use Rattle.std.specs.Float.Ieee.{of_bits}
use Rattle.std.specs.Int.Signed.{mag}
use Rattle.list_laws.specs.Lists.{tabulate}
use Rattle.list_laws.specs.Signed.{is_between}
use Rattle.tetrahedron_tables.specs.Tables.{table_of, flat}
use Rattle.triplet_study.specs.declared.Shape.{Shape}
use Rattle.triplet_study.specs.Study.{Study, study}
use Rattle.listing.specs.Listings.{refusal_of}
use Rattle.study_head.specs.declared.Head.{Head}
use Rattle.study.specs.Studies.{StudyText, study_in}
use Rattle.answer_weights.specs.Answers.{answer_to}

-- "floats as 16 hexadecimal digits of their bits": the floats of bit patterns
unfoldable pub floats_of : List ℕ → List Float
floats_of patterns = tabulate (length patterns) (λ k. of_bits binary64 (get_or patterns k 0))

-- the numbers of the lines that stand once, but for `diag`: a study's shape
abbrev pub shape_of : Head → Shape
shape_of h =
    record { bz_grid_type = h.bz_grid_type; d_diag = h.d0 ∷ h.d1 ∷ h.d2 ∷ []; tp_type = h.tp_type; num_band1 = h.num_band1; num_band2 = h.num_band2 }

-- "`diag 0` (table 0 to 3)": the built-in table, which question 7 concerns
abbrev pub table_for : Head → List ℤ
table_for h = flat (table_of (mag h.diag))

-- a study by its head and its lists
abbrev pub asked : Head → List ℤ → List ℤ → List Float → List Float → List Float → List ℤ → Study
asked h addresses gp-map frequencies1 frequencies2 points triplets = study (shape_of h) addresses gp-map (table_for h) frequencies1 frequencies2 points triplets

-- a study of a text with its floats as numbers
abbrev pub asked_of : StudyText → Study
asked_of s = asked s.head s.addresses s.gp-map (floats_of s.f1) (floats_of s.f2) (floats_of s.points) s.triplets

-- a study whose `diag` names a table, whose floats have room, and whose listing has room
abbrev pub Answerable : StudyText → Type 0
Answerable s =
    (is_between 0 3 s.head.diag ≡ true) × (length s.f1 ≤ 16384) × (length s.f2 ≤ 16384) × (length s.points ≤ 712) × (length s.triplets / 3 ≤ 1170)

-- the answer by what a text holds; a text that is too long or not well formed is refused with 1
abbrev pub answer_of_held : Option StudyText → List ℕ
answer_of_held None = refusal_of 1
answer_of_held (Some s) = answer_to (asked_of s)

-- The answer to a text.
unfoldable pub answer_of : List ℕ → List ℕ
answer_of text = answer_of_held (study_in text)

-- a buffer afterwards: the answer's bytes, then the old ones
abbrev pub answered : List ℕ → List ℕ → List ℕ
answered bytes old = bytes ++ drop (length bytes) old
