-- The open count of a triplet. Weights lie by channel, then by triplet, point, b1, b2: entry e of `cells` has its weight of channel c at c·cells + e.
use Rattle.std.specs.Prelude.{Bool, List, [], ◌∷◌, ◌++◌, ℕ, ◌+◌, ◌*◌, eqb, Float, ℤ, length, get_or}
use Rattle.std.specs.Float.{nan}
use Rattle.std.specs.Float.Ieee.{ne}
use Rattle.std.specs.Int.Signed.{mag}
use Rattle.list_laws.specs.Lists.{some_below, count_below}
use Rattle.list_laws.specs.Signed.{is_below}
use Rattle.ieee_laws.specs.Zeros.{zero_f}
use Rattle.std.specs.declared.result.Result.{Result}
use Rattle.ask.specs.Ask.{Question, asks, first_no}
use Rattle.ask.specs.Refusals.{answer_of}
use Rattle.ask.specs.declared.refusal.Refusal.{Refusal}
use Rattle.question_values.specs.TpTypes.{channels_of}
use Rattle.sheet_counts.specs.declared.Counts.{Counts}
use Rattle.sheet_counts.specs.SheetCounts.{count_questions, cells_per_triplet, cells_of, weight_count_of}

-- "different from zero; either sign of zero is zero, a NaN is not": by IEEE comparison
unfoldable pub is_nonzero : Float → Bool
is_nonzero w = ne w zero_f

-- "at least one stored weight, of all outputs of its type, different from zero": of entry e
unfoldable pub is_open : ℕ → ℕ → List Float → ℕ → Bool
is_open channels cells weights e = some_below channels (λ c. is_nonzero (get_or weights (c * cells + e) nan))

-- how many of the n entries from `start` on
unfoldable pub open_from : ℕ → ℕ → List Float → ℕ → ℕ → ℕ
open_from channels cells weights start n = count_below n (λ k. is_open channels cells weights (start + k))

-- "The open count becomes the entries of a triplet with at least one stored weight, of all outputs of its type, different from zero"
abbrev pub open_entries : ℤ → Counts → List Float → ℤ → ℕ
open_entries type c weights triplet =
    open_from (channels_of type) (cells_of c) weights (mag triplet * cells_per_triplet c) (cells_per_triplet c)

-- 8 and 9 the type and the counts, 12 the weights' length, 14 the triplet
abbrev pub open_questions : ℤ → Counts → ℕ → ℤ → List Question
open_questions type c weights triplet =
    count_questions type c ++ (asks 12 (eqb weights (weight_count_of type c)) ∷ asks 14 (is_below triplet (mag c.num_triplets)) ∷ [])

-- the number of the first no, or 0
abbrev pub open_no : ℤ → Counts → List Float → ℤ → ℕ
open_no type c weights triplet = first_no (open_questions type c (length weights) triplet)

-- the answer of a call
abbrev pub open_count_answer : ℤ → Counts → List Float → ℤ → Result ℕ Refusal
open_count_answer type c weights triplet = answer_of (open_no type c weights triplet) (open_entries type c weights triplet)
