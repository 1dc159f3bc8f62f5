-- "from one sheet a list of calls with workers swapped, none refused by 20 or 21 either way": what the law of swapped workers takes.
use Rattle.std.specs.Prelude.{◌≡◌, List, [], ◌∷◌, ℕ, ℤ}
use Rattle.sheet_step.specs.Steps.{Answered, Sheet, Call, run, carry, average}

-- two calls that differ in their worker only: any two workers
abbrev pub SameButWorker : Call → Call → Type 0
SameButWorker (run worker t b1 b2) (run worker' t' b1' b2') = (t ≡ t') × ((b1 ≡ b1') × (b2 ≡ b2'))
SameButWorker (carry worker) (carry worker') = Unit
SameButWorker (average t ids1 ids2) (average t' ids1' ids2') = (t ≡ t') × ((ids1 ≡ ids1') × (ids2 ≡ ids2'))
SameButWorker (run worker t b1 b2) (carry worker') = ⊥
SameButWorker (run worker t b1 b2) (average t' ids1 ids2) = ⊥
SameButWorker (carry worker) (run worker' t b1 b2) = ⊥
SameButWorker (carry worker) (average t ids1 ids2) = ⊥
SameButWorker (average t ids1 ids2) (run worker t' b1 b2) = ⊥
SameButWorker (average t ids1 ids2) (carry worker) = ⊥

-- two lists whose calls do, one by one
abbrev pub SameButWorkers : List Call → List Call → Type 0
SameButWorkers [] [] = Unit
SameButWorkers (c ∷ calls) (c' ∷ calls') = SameButWorker c c' × SameButWorkers calls calls'
SameButWorkers [] (c' ∷ calls') = ⊥
SameButWorkers (c ∷ calls) [] = ⊥

-- the call of another worker, by a rule that names it: a permutation of the workers is one
abbrev pub renamed : (ℤ → ℤ) → Call → Call
renamed name (run worker t b1 b2) = run (name worker) t b1 b2
renamed name (carry worker) = carry (name worker)
renamed name (average t ids1 ids2) = average t ids1 ids2

-- no answer is a refusal by 20 or by 21
abbrev pub NoneByTally : List Answered → Type 0
NoneByTally [] = Unit
NoneByTally (a ∷ rest) = ((a.number ≡ 20 → ⊥) × (a.number ≡ 21 → ⊥)) × NoneByTally rest

-- what a call said, without the tally: 0 where it is done, or the number of its refusal
abbrev pub said : Answered → ℕ
said a = a.number

-- "the same weights, flags and marks"
pub record SameContent (s s' : Sheet) : Type 0 where
  pub weights : s.weights ≡ s'.weights
  pub flags : s.flags ≡ s'.flags
  pub marks : s.marks ≡ s'.marks
