-- The corners of a row as the code holds it.
use Rattle.std.specs.Prelude.{List, [], ◌∷◌, ℤ}
use Rattle.table_rules.specs.declared.kernel.rows.Row.{Row}

-- corners 0 to 3
abbrev pub corners_of : Row → List (List ℤ)
corners_of row = row.zero.numbers ∷ row.first.numbers ∷ row.second.numbers ∷ row.third.numbers ∷ []
