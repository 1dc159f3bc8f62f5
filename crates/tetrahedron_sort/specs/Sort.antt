-- The sort of four values by the five comparisons of `sort_omegas`, and the place of the first.
use Rattle.std.specs.Prelude.{ℕ, Bool, cond, List, [], ◌∷◌, get_or, Float}
use Rattle.std.specs.Float.{nan}
use Rattle.std.specs.Float.Ieee.{lt}
use Rattle.tetrahedron_sort.specs.declared.SortedOmegas.{SortedOmegas}

-- the lesser of a pair by the test x > y: a pair that is equal, or holds a NaN, stays as it is
abbrev pub low2 : Float → Float → Float
low2 x y = cond (lt y x) y x

-- the greater of the pair
abbrev pub high2 : Float → Float → Float
high2 x y = cond (lt y x) x y

-- first each half is put in order, then the two lower values and the two upper ones, then the middle
abbrev pub sorted4 : Float → Float → Float → Float → List Float
sorted4 a b c d =
    low2 (low2 a b) (low2 c d)
    ∷ low2 (high2 (low2 a b) (low2 c d)) (low2 (high2 a b) (high2 c d))
    ∷ high2 (high2 (low2 a b) (low2 c d)) (low2 (high2 a b) (high2 c d))
    ∷ high2 (high2 a b) (high2 c d)
    ∷ []

-- where the first value lands, by which pairs changed places: as the higher of its half it is last or in the middle, as the lower it is first or in the middle
abbrev pub place_by : Bool → Bool → Bool → Bool → ℕ
place_by first lower upper middle = cond first (cond upper 3 (cond middle 1 2)) (cond lower (cond middle 2 1) 0)

-- where the first of four values lands
abbrev pub place4 : Float → Float → Float → Float → ℕ
place4 a b c d =
    place_by (lt b a) (lt (low2 c d) (low2 a b)) (lt (high2 c d) (high2 a b))
    (lt (low2 (high2 a b) (high2 c d)) (high2 (low2 a b) (low2 c d)))

-- a row's four values in ascending order
unfoldable pub sorted_of : List Float → List Float
sorted_of v = sorted4 (get_or v 0 nan) (get_or v 1 nan) (get_or v 2 nan) (get_or v 3 nan)

-- the place of a row's first value among them
unfoldable pub place_of : List Float → ℕ
place_of v = place4 (get_or v 0 nan) (get_or v 1 nan) (get_or v 2 nan) (get_or v 3 nan)

-- four values beside a place
abbrev pub sorted-omegas : List Float → ℕ → SortedOmegas
sorted-omegas omegas place = record { omegas = omegas; place = place }

-- the values in order and the place, as `sort_omegas` gives them
abbrev pub sort_of : List Float → SortedOmegas
sort_of v = sorted-omegas (sorted_of v) (place_of v)
