-- The number of the first no of a call whose study is refused. Assumes nothing.
use mathlib.Core.Path.{◌≡◌}
use Prim.Native.Nat.{ℕ}
use Rattle.ask.specs.Ask.{first_no}
use Rattle.ask.proofs.AskLaws.{group-no}
use Rattle.triplet_study.specs.Study.{Study}
use Rattle.triplet_study.specs.Questions.{study_questions}
use Rattle.triplet_iw.specs.Calls.{weights_questions}

module _ (s : Study) (weights flags : ℕ) where
  -- one of 3 to 11 says no
  pub refused-before : (first_no (study_questions s) ≡ 0 → ⊥) → first_no (weights_questions s weights flags) ≡ first_no (study_questions s)
  refused-before h = group-no (study_questions s) _ h
