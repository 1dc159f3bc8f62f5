-- The same by the value that a call takes.
use Rattle.std.specs.Prelude.{List, ℕ, ℤ, Float}
use Rattle.std.specs.declared.result.Result.{Result}
use Rattle.ask.specs.declared.refusal.Refusal.{Refusal}
use Rattle.averaging.specs.declared.Averaging.{Averaging}
use Rattle.averaging.specs.Answers.{averaging_no, averaging_answer, weights_after, flags_after}

-- the number of the first no, or 0
abbrev pub no_in : List Float → List ℤ → Averaging → ℕ
no_in iw iwz a = averaging_no iw iwz a.degenerate_ids1.now a.degenerate_ids2.now a.num_band0 a.num_band a.tp_type

-- the answer
abbrev pub answer_in : List Float → List ℤ → Averaging → Result Unit Refusal
answer_in iw iwz a = averaging_answer iw iwz a.degenerate_ids1.now a.degenerate_ids2.now a.num_band0 a.num_band a.tp_type

-- the weights afterwards
abbrev pub weights_in : List Float → List ℤ → Averaging → List Float
weights_in iw iwz a = weights_after iw iwz a.degenerate_ids1.now a.degenerate_ids2.now a.num_band0 a.num_band a.tp_type

-- the flags afterwards
abbrev pub flags_in : List Float → List ℤ → Averaging → List ℤ
flags_in iw iwz a = flags_after iw iwz a.degenerate_ids1.now a.degenerate_ids2.now a.num_band0 a.num_band a.tp_type
