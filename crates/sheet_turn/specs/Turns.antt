-- One call on its way: what every call asks.
use Rattle.std.specs.Prelude.{ℕ, length}
use Rattle.ask.specs.Ask.{first_no}
use Rattle.triplet_study.specs.Study.{Study}
use Rattle.sheet_step.specs.Steps.{Sheet, common_questions}

-- 3 to 13, which every call asks: the number of the first no, or 0
abbrev pub common_no : Study → Sheet → ℕ
common_no g s = first_no (common_questions g (length s.weights) (length s.flags) s.marks)
