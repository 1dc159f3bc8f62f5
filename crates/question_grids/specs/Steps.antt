-- Questions 7 and 10: the steps of a neighbour call, and grid points.
use Rattle.std.specs.Prelude.{Bool, ◌&&◌, List, ℕ, leb, ℤ, length}
use Rattle.list_laws.specs.Lists.{all_below, at}
use Rattle.list_laws.specs.Signed.{is_below}
use Rattle.question_grids.specs.Grids.{are_triples}

-- Question 7, of a neighbour call: "one triple or more), components within ±4,096".
unfoldable pub are_steps : List ℤ → Bool
are_steps steps = are_triples steps && leb 3 (length steps)

-- Question 10: "Is each grid point, and all three of each triplet, 0 to P-1?"
unfoldable pub are_grid_points : ℕ → List ℤ → Bool
are_grid_points p points = all_below (length points) (λ k. is_below (at points k) p)
