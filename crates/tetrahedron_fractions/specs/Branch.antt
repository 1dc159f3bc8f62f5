-- The range of omega among the sorted vertices, 0 below the first, 1 to 3 between neighbours, 4 above the last: the paper's text, at f64.
use Rattle.std.specs.Prelude.{ℕ, List, [], ◌∷◌, get_or, Float}
use Rattle.std.specs.Float.{nan}
use Rattle.std.specs.Float.Ieee.{lt}
use Rattle.tetrahedron_paper.specs.Paper as P

-- four sorted values
abbrev pub values : Float → Float → Float → Float → List Float
values a b c d = a ∷ b ∷ c ∷ d ∷ []

-- the range of omega among sorted values: omega equal to a vertex is in the range above
unfoldable pub branch_of : Float → List Float → ℕ
unfolding P.branch_of
branch_of w v = P.branch_of lt w (λ k. get_or v k nan)
