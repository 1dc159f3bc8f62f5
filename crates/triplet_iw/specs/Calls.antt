-- The questions of the weights of triplets, and what a call did.
use Rattle.std.specs.Prelude.{◌≡◌, List, [], ◌∷◌, ◌++◌, ℕ, Float, ℤ, length}
use Rattle.std.specs.declared.result.Result.{Result}
use Rattle.ask.specs.declared.refusal.Refusal.{Refusal}
use Rattle.ask.specs.Refusals.{answer_of}
use Rattle.ask.specs.Ask.{Question, asks, first_no}
use Rattle.triplet_study.specs.Study.{Study, sizes_of}
use Rattle.triplet_study.specs.Questions.{study_questions, are_lengths}
use Rattle.ask.specs.Lent.{LentMut, Leaves}
use Rattle.triplet_iw.specs.Whole.{all_weights, all_flags}

-- 3 to 11 of the study, then 12: "Is each lent buffer exactly as long as its record?"
abbrev pub weights_questions : Study → ℕ → ℕ → List Question
weights_questions s weights flags = study_questions s ++ (asks 12 (are_lengths (sizes_of s) weights flags) ∷ [])

-- the number of the first no, by the buffers
abbrev pub weights_no : Study → List Float → List ℤ → ℕ
weights_no s weights flags = first_no (weights_questions s (length weights) (length flags))

-- what it leaves in the lent buffers: all weights and all flags, and after a refusal their old content
abbrev pub AreFilled : Study → LentMut Float → LentMut ℤ → Type 0
AreFilled s weights flags =
    Leaves (weights_no s weights.entry.now flags.entry.now) (all_weights s) weights
    × Leaves (weights_no s weights.entry.now flags.entry.now) (all_flags s) flags

-- What a call did: its answer, and what it left.
abbrev pub DidFill : Study → LentMut Float → LentMut ℤ → Result Unit Refusal → Type 0
DidFill s weights flags answer = (answer ≡ answer_of (weights_no s weights.entry.now flags.entry.now) tt) × AreFilled s weights flags
