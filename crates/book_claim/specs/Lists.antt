-- A list of calls on one sheet, one after the other: by `step` and `step_answer`, which the contracts of the calls cite.
use Rattle.std.specs.Prelude.{List, [], ◌∷◌}
use Rattle.triplet_study.specs.Study.{Study}
use Rattle.sheet_step.specs.Steps.{Answered, Sheet, Call, step, step_answer}

-- the sheet and the tally after the calls: "A cut leaves sheet and tally as the call before it left them"
abbrev pub played : Study → Sheet → List Call → Sheet
played g s [] = s
played g s (c ∷ calls) = played g (step g s c) calls

-- for each call its answer: done, or refused with a number, and the tally beside it
abbrev pub answers : Study → Sheet → List Call → List Answered
answers g s [] = []
answers g s (c ∷ calls) = step_answer g s c ∷ answers g (step g s c) calls
