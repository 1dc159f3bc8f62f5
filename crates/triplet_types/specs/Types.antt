-- The type of a triplet: question 8, and how many output channels it has.
use Rattle.std.specs.Prelude.{cond, List, [], ◌∷◌, ℕ, ℤ}
use Rattle.std.specs.declared.result.Result.{Result}
use Rattle.list_laws.specs.Signed.{is_nat}
use Rattle.ask.specs.Ask.{Question, asks, first_no}
use Rattle.ask.specs.Refusals.{answer_of}
use Rattle.ask.specs.declared.refusal.Refusal.{Refusal}
use Rattle.question_values.specs.TpTypes.{is_tp_type}
use Rattle.triplet_types.specs.declared.TpType.{TpType}
use Rattle.triplet_types.specs.declared.TpType.TheVariants.{Type2, Type3, Type4}

-- the type that a tested number names: 2, 3 or 4
unfoldable pub tp_type_of : ℤ → TpType
tp_type_of tp = cond (is_nat tp 2) Type2 (cond (is_nat tp 3) Type3 Type4)

-- "Is the type 2, 3 or 4? No: 8"
abbrev pub type_questions : ℤ → List Question
type_questions tp = asks 8 (is_tp_type tp) ∷ []

-- the answer: the type, or the refusal
abbrev pub tp_type_answer : ℤ → Result TpType Refusal
tp_type_answer tp = answer_of (first_no (type_questions tp)) (tp_type_of tp)

-- the number of outputs: "type 2 gives g2, g0-g1; type 3 adds (g0+g1)+g2; type 4 gives g0"
abbrev pub channel_count : TpType → ℕ
channel_count Type2 = 2
channel_count Type3 = 3
channel_count Type4 = 1
