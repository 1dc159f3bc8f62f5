-- The corners of a triplet of a tested study, as they are looked up. Assumes nothing.
use mathlib.Core.Path.{◌≡◌, ◌∙◌}
use mathlib.Core.Bool.{true}
use mathlib.Core.List.{List}
use Prim.Native.Nat.{ℕ, ◌+◌, ◌*◌, ◌≤◌, ◌<◌}
use native.Mathlib.Omega.{arith}
use lib.IntN.{ℤ}
use lib.ListN.{length}
use Rattle.question_grids.specs.Grids.{are_triples, triples_in}
use Rattle.triplet_study.specs.declared.tested.TestedStudy.{TestedStudy}
use Rattle.triplet_study.specs.Study.{Study, triplet_count}
use Rattle.triplet_study.specs.Lent.{study_of}
use Rattle.triplet_study.specs.Tested.{Tested}
use Rattle.triplet_study.proofs.StudyLaws.{tp-of, grid-of, triplets-of}
use Rattle.triplet_study.proofs.TestedLaws.{tested-keeps, tested-few}
use Rattle.triplet_corners.specs.Corners.{second_steps, corner_numbers}
use Rattle.triplet_corners.proofs.CornerLaws.{second-length, second-triples}
use Rattle.triplet_piece.specs.Weights.{point_of, first_corners, second_corners}

module _ (t : TestedStudy) where
  abbrev s : Study
  s = study_of t.study

  keeps : Tested s
  keeps = tested-keeps t

  -- the three numbers of a triplet are there, and name grid points
  pub three_in : (k : ℕ) → k < t.sizes.triplets → 3 * k + 2 < length s.triplets
  three_in k h = let g : k < triplet_count s = rw (t.counts, triplets-of s) at h in omega (arith, keeps.triplets-whole)

  pub few_in : (k : ℕ) → k < t.sizes.triplets → k < 65536
  few_in k h = let g : k < triplet_count s = rw (t.counts, triplets-of s) at h in omega (arith, keeps.triplets-high)

  pub point_in : (k i : ℕ) → k < t.sizes.triplets → i ≤ 2 → point_of s.triplets k i < triples_in s.addresses
  point_in k i h l = keeps.triplets-at (3 * k + i) (omega (arith, three_in k h))

  -- what is looked up by the table, and by its second copy
  pub first_looked : (k : ℕ) (n : List ℕ) → n ≡ corner_numbers t.sizes.grid s.addresses s.gp-map s.steps (point_of s.triplets k 1) → n ≡ first_corners s k
  first_looked k n e = e ∙ rw (t.counts, grid-of s)

  module _ (second : List ℤ) (e : second ≡ second_steps t.sizes.tp s.steps) where
    pub second_looked : (k : ℕ) (n : List ℕ) → n ≡ corner_numbers t.sizes.grid s.addresses s.gp-map second (point_of s.triplets k 2) → n ≡ second_corners s k
    second_looked k n q = q ∙ rw (e, t.counts, tp-of s, grid-of s)

    -- the copy is of small steps, and as few
    pub copy_triples : are_triples second ≡ true
    copy_triples = rw e (second-triples t.sizes.tp s.steps keeps.table)

    pub copy_few : length second ≤ 1152
    copy_few = rw e (omega (arith, second-length t.sizes.tp s.steps, tested-few t))
