-- One piece of a carry-on: which entries it writes, and what it makes of the marks.
use Rattle.std.specs.Prelude.{Bool, ◌&&◌, List, ℕ, eqb}
use Rattle.marks.specs.Bytes.{mark_at, patch_marks}
use Rattle.marks.specs.Marks.{is_open_mark, closed}

-- piece n is piece q, and it is open
unfoldable pub is_open_piece : List ℕ → ℕ → ℕ → Bool
is_open_piece marks q n = eqb n q && is_open_mark marks n

-- "each open piece becomes computed", of piece q
unfoldable pub closed_piece : List ℕ → ℕ → List ℕ
closed_piece marks q = patch_marks (λ n. eqb n q) (λ n. closed (mark_at marks n)) marks
