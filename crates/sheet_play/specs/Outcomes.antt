-- What a list of calls leaves: the sheet, the tally, each call's number and the tally after it, from any sheet.
use Rattle.std.specs.Prelude.{List, [], ◌∷◌, ◌++◌, map, ℕ}
use Rattle.triplet_study.specs.Study.{Study}
use Rattle.sheet_tally.specs.Tallies.{sixteen_of}
use Rattle.sheet_step.specs.Steps.{Answered, Sheet, Call, step}
use Rattle.book_claim.specs.Lists.{played, answers}

-- the number of a call's answer: 0 done, otherwise that of the first no
abbrev pub number_in : Answered → ℕ
number_in a = a.number

-- "for each call accepted or which number"
abbrev pub numbers : Study → Sheet → List Call → List ℕ
numbers g s calls = map number_in (answers g s calls)

-- the tally after each of the calls, sixteen counts a call
abbrev pub tallies : Study → Sheet → List Call → List ℕ
tallies g s [] = []
tallies g s (c ∷ calls) = sixteen_of (step g s c).tally ++ tallies g (step g s c) calls

-- the sheet with the tally, each call's number, and the tally after each call
pub record Outcome : Type 0 where
  pub sheet : Sheet
  pub numbers : List ℕ
  pub tallies : List ℕ

-- it, from its parts
abbrev pub outcome : Sheet → List ℕ → List ℕ → Outcome
outcome sheet numbers tallies = record { sheet = sheet; numbers = numbers; tallies = tallies }

-- that of a list of calls, one after the other
unfoldable pub outcome_of : Study → Sheet → List Call → Outcome
outcome_of g s calls = outcome (played g s calls) (numbers g s calls) (tallies g s calls)
