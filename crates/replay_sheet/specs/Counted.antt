-- What a replay has counted of the answers.
use Rattle.std.specs.Prelude.{ℕ, List}
use Rattle.replay_sheet.specs.declared.counts.AnswerCounts.{AnswerCounts}

-- how many of each kind of call and number
abbrev pub counted : AnswerCounts → List (List ℕ)
counted c = c.by_kind
