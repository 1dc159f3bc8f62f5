-- What the answer of `parse_head` stands for.
use Rattle.std.specs.Prelude.{List, ℕ, Option}
use Rattle.sections.specs.Lines.{Part, told_part}
use Rattle.study_head.specs.declared.Head.{Head}

-- of `parse_head`, by the lines that are then left
abbrev pub told_head : Option Head → List (List ℕ) → Part Head
told_head r = told_part r (λ head. head)
