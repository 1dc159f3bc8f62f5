-- What marks mean: "by triplet, b1, b2: 0 open, 1 computed, 2 averaged".
use Rattle.std.specs.Prelude.{Bool, not, ◌&&◌, ◌||◌, cond, List, ℕ, ◌+◌, ◌*◌, ◌/◌, eqb, ltb}
use Rattle.list_laws.specs.Lists.{all_below, count_below}
use Rattle.marks.specs.Bytes.{mark_at, patch_marks}

-- "Open, computed, averaged are marks 0, 1, 2": the mark at place q is 0
unfoldable pub is_open_mark : List ℕ → ℕ → Bool
is_open_mark marks q = eqb (mark_at marks q) 0

-- of so many pieces q is one, and open
unfoldable pub is_open_at : ℕ → List ℕ → ℕ → Bool
is_open_at pieces marks q = ltb q pieces && is_open_mark marks q

-- piece q is computed
unfoldable pub is_computed_at : List ℕ → ℕ → Bool
is_computed_at marks q = eqb (mark_at marks q) 1

-- piece q is averaged
unfoldable pub is_averaged_at : List ℕ → ℕ → Bool
is_averaged_at marks q = eqb (mark_at marks q) 2

-- both or neither
unfoldable pub alike : Bool → Bool → Bool
alike a b = (a && b) || (not a && not b)

-- Question 13 of a mark beside the first of its triplet's: 0, 1 or 2, and 2 exactly where the first is
unfoldable pub is_mark_beside : ℕ → ℕ → Bool
is_mark_beside mark first = ltb mark 3 && alike (eqb mark 2) (eqb first 2)

-- Question 13 of piece q: its mark is 0, 1 or 2, and 2 exactly where the first of its triplet's is
unfoldable pub is_mark : ℕ → List ℕ → ℕ → Bool
unfolding is_mark_beside is_averaged_at
is_mark pairs marks q = is_mark_beside (mark_at marks q) (mark_at marks (q / pairs * pairs))

-- Question 13, of so many pieces: "Are marks 0, 1, 2, and a triplet's all 2 or none 2?"
unfoldable pub are_marks : ℕ → ℕ → List ℕ → Bool
are_marks pairs pieces marks = all_below pieces (is_mark pairs marks)

-- Question 15: "is its triplet not yet averaged?"
unfoldable pub is_not_averaged : ℕ → List ℕ → ℕ → Bool
is_not_averaged pairs marks t = not (is_averaged_at marks (t * pairs))

-- Question 18: "Are all the triplet's marks 1?"
unfoldable pub are_computed : ℕ → List ℕ → ℕ → Bool
are_computed pairs marks t = all_below pairs (λ k. is_computed_at marks (t * pairs + k))

-- how many of so many pieces are open
unfoldable pub open_pieces : ℕ → List ℕ → ℕ
open_pieces pieces marks = count_below pieces (is_open_mark marks)

-- "each open piece becomes computed"
abbrev pub closed : ℕ → ℕ
closed mark = cond (eqb mark 0) 1 mark

-- "Carrying on runs all pieces marked 0": the marks of so many pieces afterwards
unfoldable pub carried_marks : ℕ → List ℕ → List ℕ
carried_marks pieces marks = patch_marks (λ q. ltb q pieces) (λ q. closed (mark_at marks q)) marks

-- "Averaging one triplet .. sets its marks to 2"
unfoldable pub averaged_marks : ℕ → ℕ → List ℕ → List ℕ
averaged_marks pairs t marks = patch_marks (λ q. eqb (q / pairs) t) (λ q. 2) marks
