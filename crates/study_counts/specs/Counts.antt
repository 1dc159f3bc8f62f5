-- Question 1's count of weights.
use Rattle.std.specs.Prelude.{Bool, true, cond, ◌&&◌, ℕ, ◌*◌, leb, ℤ, pos}
use Rattle.std.specs.Int.Signed.{mag}
use Rattle.question_values.specs.Counts.{are_counts}
use Rattle.question_values.specs.TpTypes.{is_tp_type, channels_of}

-- the number of weights, "channels counted"
unfoldable pub weight_count : ℤ → ℤ → ℤ → ℕ → ℕ → ℕ
weight_count type bands1 bands2 points triplets = channels_of type * triplets * points * (mag bands1 * mag bands2)

-- Question 1: "at most 4,096 weights, channels counted (this count is not tested where 8 or 9 says no)"
unfoldable pub few_weights : ℤ → ℤ → ℤ → ℕ → ℕ → Bool
few_weights type bands1 bands2 points triplets =
    cond (is_tp_type type && are_counts bands1 bands2 (pos points) (pos triplets)) (leb (weight_count type bands1 bands2 points triplets) 4096) true
