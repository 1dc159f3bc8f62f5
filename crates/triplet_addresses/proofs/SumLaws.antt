-- The sum of three components fits, and the points of a tested triplet have addresses. Assumes nothing.
use mathlib.Core.Path.{◌≡◌}
use mathlib.Core.Bool.{true, ◌&&◌}
use mathlib.Core.List.{List}
use Prim.Native.Nat.{ℕ, ◌<◌}
use native.Mathlib.Omega.{arith}
use borrow.Author.Tests.{leb-true, le-leb}
use lib.IntN.{ℤ, nat_abs, ◌+ℤ◌}
use lib.Signed.{mag}
use mir.Syntax.{w64}
use mir.Val.{SFits}
use lib.ListN.{length}
use Rattle.list_laws.specs.Lists.{all_below, at}
use Rattle.list_laws.specs.Signed.{is_below, within}
use Rattle.list_laws.proofs.BoolLaws.{and_left, and_right}
use Rattle.list_laws.proofs.SizeLaws.{size-sum}
use Rattle.list_laws.proofs.SignedLaws.{sum_fits, below-lt}
use Rattle.question_grids.specs.Steps.{are_grid_points}
use Rattle.triplet_addresses.specs.Normal.{is_on_grid}

-- the sum of two components is at most 8,192
two-within : (x y : ℤ) → within 4096 x ≡ true → within 4096 y ≡ true → within 8192 (x +ℤ y) ≡ true
unfolding within
two-within x y f g = le-leb (nat_abs (x +ℤ y)) 8192 (omega (arith, size-sum x y, leb-true (nat_abs x) 4096 f, leb-true (nat_abs y) 4096 g))

wider : (x : ℤ) → within 4096 x ≡ true → within 8192 x ≡ true
unfolding within
wider x f = le-leb (nat_abs x) 8192 (omega (arith, leb-true (nat_abs x) 4096 f))

pub two-fit : (x y : ℤ) → within 4096 x ≡ true → within 4096 y ≡ true → SFits w64 (x +ℤ y)
two-fit x y f g = sum_fits 4096 x y (omega arith) f g

pub three-fit : (x y z : ℤ) → within 4096 x ≡ true → within 4096 y ≡ true → within 4096 z ≡ true → SFits w64 ((x +ℤ y) +ℤ z)
three-fit x y z f g h = sum_fits 8192 (x +ℤ y) z (omega arith) (two-within x y f g) (wider z h)

-- question 10 of three numbers
pub points-on-grid : (p : ℕ) (triplet : List ℤ) → length triplet ≡ 3 → are_grid_points p triplet ≡ is_on_grid p triplet
unfolding are_grid_points all_below is_on_grid
points-on-grid p triplet e = rw e

module _ (p : ℕ) (triplet : List ℤ) (e : is_on_grid p triplet ≡ true) where
  pub first-lt : mag (at triplet 0) < p
  unfolding is_on_grid
  first-lt = below-lt (at triplet 0) p (and_left (is_below (at triplet 0) p) (is_below (at triplet 1) p) (and_left (is_below (at triplet 0) p && is_below (at triplet 1) p) (is_below (at triplet 2) p) e))

  pub second_lt : mag (at triplet 1) < p
  unfolding is_on_grid
  second_lt = below-lt (at triplet 1) p (and_right (is_below (at triplet 0) p) (is_below (at triplet 1) p) (and_left (is_below (at triplet 0) p && is_below (at triplet 1) p) (is_below (at triplet 2) p) e))

  pub third-lt : mag (at triplet 2) < p
  unfolding is_on_grid
  third-lt = below-lt (at triplet 2) p (and_right (is_below (at triplet 0) p && is_below (at triplet 1) p) (is_below (at triplet 2) p) e)
