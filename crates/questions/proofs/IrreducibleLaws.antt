-- What the answer yes to question 11 says of the frequencies of irreducible points and of the map to them. Assumes nothing.
use mathlib.Core.Path.{◌≡◌}
use mathlib.Core.Bool.{true, ◌&&◌}
use mathlib.Core.List.{List}
use Prim.Native.Nat.{ℕ, ◌*◌, ◌<◌}
use borrow.Author.Tests.{eqb-true}
use lib.Dec.{leb, eqb}
use lib.IntN.{ℤ}
use lib.Ieee.{Float}
use lib.ListN.{length}
use lib.Signed.{non_neg, mag}
use Rattle.list_laws.specs.Lists.{at}
use Rattle.list_laws.proofs.BoolLaws.{and_left, and_right}
use Rattle.question_values.specs.Counts.{is_product}
use Rattle.question_values.specs.Frequencies.{are_frequencies}
use Rattle.question_grids.specs.Steps.{are_grid_points}
use Rattle.questions.specs.Irreducible.{is_irreducible_map, are_irreducible}
use Rattle.question_grids.proofs.StepLaws.{grid-points-at, product-yes}

module _ (r : ℤ) (bands p : ℕ) (frequencies : List Float) (irreducible : List ℤ) (e : are_irreducible r bands p frequencies irreducible ≡ true) where
  first : ((non_neg r && leb 1 (mag r)) && is_product (mag r) bands (length frequencies)) ≡ true
  unfolding are_irreducible
  first = and_left _ (are_frequencies frequencies && is_irreducible_map p (mag r) irreducible) e

  second : is_irreducible_map p (mag r) irreducible ≡ true
  unfolding are_irreducible
  second = and_right (are_frequencies frequencies) _ (and_right ((non_neg r && leb 1 (mag r)) && is_product (mag r) bands (length frequencies)) _ e)

  -- R times bands frequencies
  pub frequencies-held : length frequencies ≡ mag r * bands
  frequencies-held = product-yes (mag r) bands (length frequencies) (and_right (non_neg r && leb 1 (mag r)) _ first)

  -- P values of the map
  pub irreducible-length : length irreducible ≡ p
  unfolding is_irreducible_map
  irreducible-length = eqb-true (length irreducible) p (and_left (eqb (length irreducible) p) (are_grid_points (mag r) irreducible) second)

  -- each below R
  pub irreducible-at : (k : ℕ) → k < length irreducible → mag (at irreducible k) < mag r
  unfolding is_irreducible_map
  irreducible-at = grid-points-at (mag r) irreducible (and_right (eqb (length irreducible) p) (are_grid_points (mag r) irreducible) second)
