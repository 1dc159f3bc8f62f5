-- Question 7: the count of rows of a table or of directly given vertices.
use Rattle.std.specs.Prelude.{Bool, ◌||◌, ℕ, ◌*◌, eqb}

-- Question 7: "24, 48, 72 or 96 rows", of a flat list of n entries with so many to a row
abbrev pub has_rows : ℕ → ℕ → Bool
has_rows size n = (eqb n (24 * size) || eqb n (48 * size)) || (eqb n (72 * size) || eqb n (96 * size))
