-- The second copy of the steps is small and whole as the first is, and each corner number is the number of an address. Assumes nothing.
use mathlib.Core.Path.{◌≡◌, refl, sym, ◌∙◌}
use mathlib.Core.Bool.{Bool, true, false}
use mathlib.Core.List.{List, ◌++◌}
use Prim.Native.Nat.{ℕ, zero, suc, ◌*◌, ◌%◌, ◌<◌}
use native.Mathlib.Omega.{arith}
use borrow.Author.Tests.{leb-true, eq-eqb}
use lib.IntN.{ℤ, pos, negsuc, neg_ℤ}
use lib.ListN.{get_or, length, take, drop, replicate, length-map, get_or-map}
use lib.Seq.{ext_get_or}
use mir.Syntax.{w64}
use mir.Val.{SFits}
use Rattle.std.proofs.lemmas.List.{drop-replicate}
use Rattle.list_laws.specs.Lists.{at, tabulate, area}
use Rattle.list_laws.specs.Signed.{within}
use Rattle.list_laws.proofs.BoolLaws.{and_both}
use Rattle.list_laws.proofs.BelowLaws.{below_all}
use Rattle.list_laws.proofs.FillLaws.{length-tabulate, tabulate-at, area-at, area-front}
use Rattle.list_laws.proofs.ProductLaws.{digit_lt}
use Rattle.question_grids.specs.Grids.{are_triples, triples_in}
use Rattle.question_grids.proofs.GridLaws.{triples-at, triples-whole}
use Rattle.bzgrid_lookup.specs.declared.BzGrid.{BzGrid}
use Rattle.bzgrid_lookup.specs.Neighbours.{neighbour_of, wanted_address, SoundGrid}
use Rattle.bzgrid_lookup.proofs.NeighbourLaws.{neighbour-lt}
use Rattle.triplet_types.specs.declared.TpType.{TpType}
use Rattle.triplet_values.specs.Values.{Held}
use Rattle.triplet_corners.specs.Corners.{is_negated, step_of, copy_of, second_steps, second_area, corner_numbers}

pub small-neg : (z : ℤ) → within 4096 z ≡ true → within 4096 (neg_ℤ z) ≡ true
unfolding within
small-neg (pos zero) e = e
small-neg (pos (suc n)) e = e
small-neg (negsuc n) e = e

pub small-fits : (z : ℤ) → within 4096 z ≡ true → SFits w64 z
unfolding within
small-fits (pos n) e = record { sfits = omega (arith, leb-true n 4096 e) }
small-fits (negsuc n) e = record { sfits = omega (arith, leb-true (suc n) 4096 e) }

step_small : (negated : Bool) (z : ℤ) → within 4096 z ≡ true → within 4096 (step_of negated z) ≡ true
step_small true z e = small-neg z e
step_small false z e = e

step-zero : (negated : Bool) → step_of negated (pos 0) ≡ pos 0
step-zero true = refl
step-zero false = refl

module _ (negated : Bool) (steps : List ℤ) where
  copy-length : length (copy_of negated steps) ≡ length steps
  unfolding copy_of
  copy-length = length-map steps (step_of negated)

  copy_at : (k : ℕ) → at (copy_of negated steps) k ≡ step_of negated (at steps k)
  unfolding copy_of
  copy_at k = rw (step-zero negated) at (get_or-map (step_of negated) steps k (pos 0))

  -- a copy by its components
  pub copy-tabulated : tabulate (length steps) (λ k. step_of negated (at steps k)) ≡ copy_of negated steps
  copy-tabulated =
      ext_get_or (pos 0) (tabulate (length steps) (λ k. step_of negated (at steps k))) (copy_of negated steps)
      (length-tabulate (length steps) (λ k. step_of negated (at steps k)) ∙ sym copy-length)
      (λ i h. tabulate-at (length steps) (λ k. step_of negated (at steps k)) (pos 0) i (omega (arith, length-tabulate (length steps) (λ k. step_of negated (at steps k)))) ∙ sym (copy_at i))

-- a copy that is not negated is the list
pub copy-plain : (steps : List ℤ) → copy_of false steps ≡ steps
copy-plain steps = ext_get_or (pos 0) (copy_of false steps) steps (copy-length false steps) (λ i l. copy_at false steps i)

module _ (tp : TpType) (steps : List ℤ) where
  pub second-length : length (second_steps tp steps) ≡ length steps
  second-length = copy-length (is_negated tp) steps

  -- it written in front of an array of zeros
  pub second-put : second_steps tp steps ++ drop (length steps) (replicate 1152 (pos 0)) ≡ second_area tp steps
  unfolding second_area area
  second-put = rw (← copy-tabulated (is_negated tp) steps, drop-replicate (length steps) 1152 (pos 0))

  -- what the array has in front is the second copy
  pub second-front : take (length steps) (second_area tp steps) ≡ second_steps tp steps
  unfolding second_area
  second-front = area-front 1152 (λ k. step_of (is_negated tp) (at steps k)) (pos 0) (length steps) ∙ copy-tabulated (is_negated tp) steps

  -- as it is lent
  pub second-lent : (a : List ℤ) → a ≡ second_area tp steps → take (length steps) a ≡ second_steps tp steps
  second-lent a e = rw e second-front

  pub second-triples : are_triples steps ≡ true → are_triples (second_steps tp steps) ≡ true
  unfolding are_triples
  second-triples e =
      rw second-length
      (and_both (eq-eqb (length steps % 3) 0 (triples-whole steps e))
      (below_all (length steps) (λ k. within 4096 (at (second_steps tp steps) k)) (λ k h. rw (copy_at (is_negated tp) steps k) (step_small (is_negated tp) (at steps k) (triples-at steps e k h)))))

module _ (grid : BzGrid) (addresses gp-map : List ℤ) (ok : SoundGrid grid addresses gp-map) (steps : List ℤ) (g : ℕ) where
  -- each corner number is the number of an address
  pub corner-lt : (i : ℕ) → i < triples_in steps → get_or (corner_numbers grid addresses gp-map steps g) i 0 < triples_in addresses
  unfolding corner_numbers
  corner-lt i h =
      rw (area-at 384 (λ j. neighbour_of grid addresses gp-map (wanted_address addresses steps g j)) 0 (triples_in steps) 0 i h)
      (neighbour-lt grid addresses gp-map ok (wanted_address addresses steps g i))

  -- and has its frequency of each band
  pub corners-held : (rows bands band count : ℕ) → length steps ≡ rows * 12 → count ≡ triples_in addresses * bands → band < bands
      → Held (corner_numbers grid addresses gp-map steps g) (rows * 4) count bands band
  corners-held rows bands band count size e h i l =
      rw e (digit_lt (get_or (corner_numbers grid addresses gp-map steps g) i 0) (triples_in addresses) band bands (corner-lt i (omega arith)) h)
