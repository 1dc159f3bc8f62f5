-- A call that reads a listing: its questions, and the record that it restores.
use Rattle.std.specs.Prelude.{Bool, ◌&&◌, List, [], ◌∷◌, ◌++◌, ℕ, eqb, Float, ℤ}
use Rattle.std.specs.Int.Signed.{mag}
use Rattle.ask.specs.Ask.{Question, asks, first_no}
use Rattle.question_values.specs.TpTypes.{channels_of}
use Rattle.sheet_counts.specs.declared.Counts.{Counts}
use Rattle.sheet_counts.specs.SheetCounts.{count_questions, cells_of, weight_count_of}
use Rattle.listing_read.specs.Restored.{flags_in, weights_in, is_listing}

-- the weights that stand in a listing, of a type and counts
unfoldable pub listed_weights : List ℕ → ℤ → Counts → List Float
listed_weights listing type c = weights_in (mag c.num_band0) (mag c.num_band1) (mag c.num_band2) (channels_of type) (cells_of c) listing

-- and the flags
unfoldable pub listed_flags : List ℕ → ℤ → Counts → List ℤ
listed_flags listing type c = flags_in (mag c.num_band0) (mag c.num_band1) (mag c.num_band2) (channels_of type) (cells_of c) listing

-- Question 22
unfoldable pub is_listed : List ℕ → ℤ → Counts → Bool
is_listed listing type c = is_listing (mag c.num_band0) (mag c.num_band1) (mag c.num_band2) (channels_of type) (cells_of c) listing

-- 8 and 9 the type and the counts, 12 the buffers' lengths, 22 the listing
abbrev pub read_questions : List ℕ → ℤ → Counts → ℕ → ℕ → List Question
read_questions listing type c weights flags =
    count_questions type c ++ (asks 12 (eqb weights (weight_count_of type c) && eqb flags (cells_of c)) ∷ asks 22 (is_listed listing type c) ∷ [])

-- the number of the first no, or 0
abbrev pub read_no : List ℕ → ℤ → Counts → ℕ → ℕ → ℕ
read_no listing type c weights flags = first_no (read_questions listing type c weights flags)
