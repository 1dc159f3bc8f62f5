-- The lines of a text and the fields of a line that are left, and what the answers of their readers stand for.
use Rattle.std.specs.Prelude.{ℕ, List, take, drop, Option, Some, None}
use Rattle.std.specs.Borrow.{Bor}
use Rattle.text.specs.Pieces.{ended, split_from}
use Rattle.sections.specs.Lines.{Part, told_part}
use Rattle.sections.specs.declared.kernel.Fields.{Fields}
use Rattle.sections.specs.declared.kernel.Lines.{Lines}

-- from where the next line starts
abbrev pub left : Lines → List (List ℕ)
left l = ended 10 (drop l.next l.text.now)

-- from where the next field starts
abbrev pub parts : Fields → List (List ℕ)
parts f = split_from 9 f.line.now f.next

-- of `tagged`, by the lines that are then left
abbrev pub told_tagged : Option Fields → List (List ℕ) → Option (List (List ℕ) × List (List ℕ))
told_tagged None ls = None
told_tagged (Some f) ls = Some (parts f, ls)

-- of `fill_rows`, with what is then in its buffer
abbrev pub told_filled : {A : Type 0} → Option ℕ → List A → List (List ℕ) → Part (List A)
told_filled r out = told_part r (λ count. take count out)

-- of `rows`
abbrev pub told_rows : {A : Type 0} → Option (Bor (List A)) → List (List ℕ) → Part (List A)
told_rows r = told_part r (λ held. held.now)

-- of `one`
abbrev pub told_one : {A : Type 0} → Option (Unit {0}) → List A → List (List ℕ) → Part (List A)
told_one r row = told_part r (λ done. row)
