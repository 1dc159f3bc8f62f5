-- What `integration_weight` answers: the weight, or the first question that says no.
use Rattle.std.specs.Prelude.{◌/◌, ◌&&◌, List, [], ◌∷◌, length, Float}
use Rattle.std.specs.declared.result.Result.{Result}
use Rattle.ask.specs.Ask.{Question, asks, first_no}
use Rattle.ask.specs.Refusals.{answer_of}
use Rattle.ask.specs.declared.refusal.Refusal.{Refusal}
use Rattle.question_values.specs.Frequencies.{are_points, is_point}
use Rattle.question_values.specs.Rows.{has_rows}
use Rattle.tetrahedron_method.specs.declared.WeightFunction.{WeightFunction}
use Rattle.tetrahedron_method.specs.Weight.{weight_of}

-- the vertices are 24, 48, 72 or 96 rows of four; they and the point are in their range
abbrev pub weight_questions : Float → List Float → List Question
weight_questions w vertices = asks 7 (has_rows 4 (length vertices)) ∷ asks 11 (are_points vertices && is_point w) ∷ []

-- the answer of `integration_weight`
abbrev pub integration_weight_answer : Float → List Float → WeightFunction → Result Float Refusal
integration_weight_answer w vertices u = answer_of (first_no (weight_questions w vertices)) (weight_of u w vertices (length vertices / 4))
