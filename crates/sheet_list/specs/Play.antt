-- What playing a list of calls asks, and what it did.
use Rattle.std.specs.Prelude.{◌≡◌, Bool, ◌&&◌, List, [], ◌∷◌, ℕ, ◌*◌, eqb}
use Rattle.ask.specs.Ask.{asks, first_no, after_call}
use Rattle.triplet_study.specs.Study.{Study}
use Rattle.std.specs.declared.result.Result.{Result}
use Rattle.ask.specs.declared.refusal.Refusal.{Refusal}
use Rattle.sheet_tally.specs.declared.Tally.{Tally}
use Rattle.sheet_tally.specs.Tallies.{sheet_answer}
use Rattle.sheet_step.specs.Steps.{Sheet, Call}
use Rattle.sheet_play.specs.Outcomes.{Outcome, outcome, outcome_of}

-- Question 12: "Is each lent buffer exactly as long as its record?" The list has six numbers a call; of each call one answer and sixteen
-- counts.
unfoldable pub are_list_lengths : ℕ → ℕ → ℕ → Bool
are_list_lengths list answers tallies = eqb list (answers * 6) && eqb tallies (answers * 16)

-- the number of its first no, and 0 where the list is played
unfoldable pub list_no : ℕ → ℕ → ℕ → ℕ
list_no list answers tallies = first_no (asks 12 (are_list_lengths list answers tallies) ∷ [])

-- What playing a list did: its answer by the number of its first no, with the tally that it left, and what it left.
pub record DidPlay (g : Study) (s : Sheet) (calls : List Call) (number : ℕ) (answers tallies : List ℕ) (answer : Result Tally Refusal) (left : Outcome) : Type 0 where
  pub answers_with : answer ≡ sheet_answer number left.sheet.tally
  pub leaves : left ≡ after_call number (outcome_of g s calls) (outcome s answers tallies)
