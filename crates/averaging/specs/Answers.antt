-- The averaging of one triplet: the questions it asks, its answer, and what its two buffers hold afterwards.
-- The arguments are those of `average_weights_over_degenerate_sets`: weights, flags, both id lists, the counts of points and bands, the type.
use Rattle.std.specs.Prelude.{◌&&◌, List, [], ◌∷◌, ℕ, ◌*◌, eqb, ℤ, pos, length, Float}
use Rattle.std.specs.Int.Signed.{mag}
use Rattle.ask.specs.Ask.{Question, asks, first_no, after_call}
use Rattle.ask.specs.Refusals.{answer_of}
use Rattle.ask.specs.declared.refusal.Refusal.{Refusal}
use Rattle.std.specs.declared.result.Result.{Result}
use Rattle.question_values.specs.Averages.{are_degenerate_ids, are_weights}
use Rattle.question_values.specs.Counts.{are_counts, cell_count}
use Rattle.question_values.specs.TpTypes.{is_tp_type, channels_of}
use Rattle.averaging_blocks.specs.Weights.{averaged_points}
use Rattle.averaging_flags.specs.Flags.{averaged_flag_points}

-- questions 8, 9 (of one triplet), 12, 17 and 19
abbrev pub averaging_questions : List Float → List ℤ → List ℤ → List ℤ → ℤ → ℤ → ℤ → List Question
averaging_questions iw iwz ids1 ids2 points bands type =
    asks 8 (is_tp_type type)
    ∷ asks 9 (are_counts bands bands points (pos 1))
    ∷ asks 12 (eqb (length iw) (channels_of type * cell_count points bands bands) && eqb (length iwz) (cell_count points bands bands))
    ∷ asks 17 (are_degenerate_ids (mag bands) ids1 && are_degenerate_ids (mag bands) ids2)
    ∷ asks 19 (are_weights iw)
    ∷ []

-- the number of the first no, or 0
abbrev pub averaging_no : List Float → List ℤ → List ℤ → List ℤ → ℤ → ℤ → ℤ → ℕ
averaging_no iw iwz ids1 ids2 points bands type = first_no (averaging_questions iw iwz ids1 ids2 points bands type)

-- the answer
abbrev pub averaging_answer : List Float → List ℤ → List ℤ → List ℤ → ℤ → ℤ → ℤ → Result Unit Refusal
averaging_answer iw iwz ids1 ids2 points bands type = answer_of (averaging_no iw iwz ids1 ids2 points bands type) tt

-- the weights afterwards: each point's matrix of each channel is averaged; as they were after a refusal
abbrev pub weights_after : List Float → List ℤ → List ℤ → List ℤ → ℤ → ℤ → ℤ → List Float
weights_after iw iwz ids1 ids2 points bands type =
    after_call (averaging_no iw iwz ids1 ids2 points bands type) (averaged_points (mag bands) ids1 ids2 (channels_of type * mag points) iw) iw

-- the flags afterwards
abbrev pub flags_after : List Float → List ℤ → List ℤ → List ℤ → ℤ → ℤ → ℤ → List ℤ
flags_after iw iwz ids1 ids2 points bands type =
    after_call (averaging_no iw iwz ids1 ids2 points bands type) (averaged_flag_points (mag bands) ids1 ids2 (mag points) iwz) iwz
