-- The questions of a call under a customer's table, and what it did.
use Rattle.std.specs.Prelude.{◌≡◌, List, ◌++◌, ℕ, Float, length}
use Rattle.std.specs.declared.result.Result.{Result}
use Rattle.ask.specs.declared.refusal.Refusal.{Refusal}
use Rattle.ask.specs.Refusals.{answer_of}
use Rattle.ask.specs.Ask.{Question, first_no, after_call}
use Rattle.question_grids.specs.Grids.{grid_questions}
use Rattle.table_rules.specs.Questions.{table_questions}
use Rattle.grid_point_weights.specs.Weights.{weights_of_all}
use Rattle.grid_point_weights.specs.Calls.{GridPointCall, study_of, rest_asked}

-- The questions of `checked_integration_weights_at_grid_points`, in their order.
abbrev pub checked_questions : GridPointCall → ℕ → List Question
checked_questions g iw = grid_questions g.kind g.diag g.addresses g.gp-map ++ (table_questions g.table ++ rest_asked g iw)

-- the number of the first no, by the buffer
abbrev pub checked_no : GridPointCall → List Float → ℕ
checked_no g iw = first_no (checked_questions g (length iw))

-- what the buffer holds afterwards: "weights by the same definition as before", and after a refusal its old content
abbrev pub checked_weighed : GridPointCall → List Float → List Float
checked_weighed g old = after_call (checked_no g old) (weights_of_all (study_of g) g.grid-points) old

-- What a call did: its answer, and the buffer before and after it.
abbrev pub DidWeighChecked : GridPointCall → Result (Unit {0}) Refusal → List Float → List Float → Type 0
DidWeighChecked g answer old new = (answer ≡ answer_of (checked_no g old) tt) × (new ≡ checked_weighed g old)
