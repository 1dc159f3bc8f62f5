-- The corners of a triplet: the second copy of the steps, and the numbers of the neighbours.
use Rattle.std.specs.Prelude.{Bool, true, false, cond, List, map, ℕ, ℤ, pos, neg_ℤ, length}
use Rattle.list_laws.specs.Lists.{at, area}
use Rattle.question_grids.specs.Grids.{triples_in}
use Rattle.bzgrid_lookup.specs.declared.BzGrid.{BzGrid}
use Rattle.bzgrid_lookup.specs.Neighbours.{neighbour_of, wanted_address}
use Rattle.triplet_types.specs.declared.TpType.{TpType}
use Rattle.triplet_types.specs.declared.TpType.TheVariants.{Type2, Type3, Type4}

-- "For triplet types 2 and 3 the second copy is negated; for 4 it is not."
abbrev pub is_negated : TpType → Bool
is_negated Type2 = true
is_negated Type3 = true
is_negated Type4 = false

-- a component of a copy
abbrev pub step_of : Bool → ℤ → ℤ
step_of negated z = cond negated (neg_ℤ z) z

-- the steps, each component negated or as it is
unfoldable pub copy_of : Bool → List ℤ → List ℤ
copy_of negated steps = map (step_of negated) steps

-- the second copy: the steps of the third point of a triplet
abbrev pub second_steps : TpType → List ℤ → List ℤ
second_steps tp steps = copy_of (is_negated tp) steps

-- the same in front of an array of 1,152 numbers
unfoldable pub second_area : TpType → List ℤ → List ℤ
second_area tp steps = area 1152 (length steps) (λ k. step_of (is_negated tp) (at steps k)) (pos 0)

-- the numbers of the neighbours of point g, one for each step, in front of an array of 384 numbers
unfoldable pub corner_numbers : BzGrid → List ℤ → List ℤ → List ℤ → ℕ → List ℕ
corner_numbers grid addresses gp-map steps g =
    area 384 (triples_in steps) (λ j. neighbour_of grid addresses gp-map (wanted_address addresses steps g j)) 0
