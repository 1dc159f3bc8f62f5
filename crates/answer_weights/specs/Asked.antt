-- What the program asks of a study: question 1's count of weights, then 3 to 11.
use Rattle.std.specs.Prelude.{Bool, List, ◌∷◌, length}
use Rattle.ask.specs.Ask.{Question, asks}
use Rattle.study_counts.specs.Counts.{few_weights}
use Rattle.triplet_study.specs.Study.{Study}
use Rattle.triplet_study.specs.Questions.{triplets_in, study_questions}

-- Question 1, of the count of its weights
abbrev pub asks_few : Study → Bool
asks_few s = few_weights s.shape.tp_type s.shape.num_band1 s.shape.num_band2 (length s.points) (triplets_in s.triplets)

-- all that is asked of a well formed text, in order
abbrev pub questions_of : Study → List Question
questions_of s = asks 1 (asks_few s) ∷ study_questions s
