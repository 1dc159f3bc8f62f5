-- What the answers yes to questions 7, 9, 10 and 12 say. Assumes nothing.
use mathlib.Core.Path.{◌≡◌}
use mathlib.Core.Bool.{true}
use mathlib.Core.List.{List}
use Prim.Native.Nat.{ℕ, ◌*◌, ◌<◌, ◌≤◌}
use borrow.Author.Tests.{leb-true, eqb-true}
use lib.Dec.{leb}
use lib.IntN.{ℤ}
use lib.ListN.{length}
use lib.Signed.{mag}
use Rattle.list_laws.specs.Lists.{at}
use Rattle.list_laws.specs.Signed.{is_below}
use Rattle.list_laws.proofs.BoolLaws.{and_left, and_right}
use Rattle.list_laws.proofs.BelowLaws.{below_at}
use Rattle.list_laws.proofs.SignedLaws.{below-lt}
use Rattle.question_grids.specs.Grids.{are_triples}
use Rattle.question_grids.specs.Steps.{are_steps, are_grid_points}
use Rattle.question_values.specs.Counts.{is_product}

pub steps-triples : (steps : List ℤ) → are_steps steps ≡ true → are_triples steps ≡ true
unfolding are_steps
steps-triples steps e = and_left (are_triples steps) (leb 3 (length steps)) e

pub steps-some : (steps : List ℤ) → are_steps steps ≡ true → 3 ≤ length steps
unfolding are_steps
steps-some steps e = leb-true 3 (length steps) (and_right (are_triples steps) (leb 3 (length steps)) e)

pub grid-points-at : (p : ℕ) (points : List ℤ) → are_grid_points p points ≡ true → (k : ℕ) → k < length points → mag (at points k) < p
unfolding are_grid_points
grid-points-at p points e k h = below-lt (at points k) p (below_at (length points) (λ k. is_below (at points k) p) e k h)

pub product-yes : (rows size n : ℕ) → is_product rows size n ≡ true → n ≡ rows * size
unfolding is_product
product-yes rows size n e = eqb-true n (rows * size) e

-- by one name, for the attributes of functions
pub ruleset step_laws = (steps-triples, steps-some, grid-points-at, product-yes)
