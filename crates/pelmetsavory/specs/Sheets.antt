-- What a list of calls on a sheet did, as a status and what it left.
use Rattle.std.specs.Prelude.{◌≡◌, List, ℕ}
use Rattle.ask.specs.Ask.{after_call}
use Rattle.triplet_study.specs.Study.{Study}
use Rattle.sheet_step.specs.Steps.{Sheet, Call}
use Rattle.sheet_play.specs.Outcomes.{Outcome, outcome, outcome_of}

-- a list of calls, which the number of a first no may keep from being played
pub record CalledPlay (g : Study) (s : Sheet) (calls : List Call) (number : ℕ) (answers tallies : List ℕ) (status : ℕ) (left : Outcome) : Type 0 where
  pub status-is : status ≡ number
  pub leaves : left ≡ after_call number (outcome_of g s calls) (outcome s answers tallies)
