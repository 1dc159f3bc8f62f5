-- What a tested study keeps. Assumes nothing.
use mathlib.Core.Path.{◌≡◌}
use mathlib.Core.Bool.{true}
use Prim.Native.Nat.{ℕ, ◌≤◌}
use native.Mathlib.Omega.{arith}
use lib.ListN.{length}
use Rattle.bzgrid_lookup.specs.Neighbours.{SoundGrid}
use Rattle.triplet_study.specs.declared.tested.TestedStudy.{TestedStudy}
use Rattle.triplet_study.specs.Lent.{study_of}
use Rattle.triplet_study.specs.Questions.{are_lengths}
use Rattle.triplet_study.specs.Tested.{Tested, Counted, Ready}
use Rattle.triplet_study.proofs.StudyLaws.{counted, ready-made, grid-of}

-- what 3 to 11 told of it, and of its counts
pub tested-keeps : (t : TestedStudy) → Tested (study_of t.study)
tested-keeps t = t.told

pub tested-counted : (t : TestedStudy) → Counted t.sizes
tested-counted t = rw t.counts (counted (tested-keeps t))

-- its grid is sound, as its counts name it
pub tested-grid : (t : TestedStudy) → SoundGrid t.sizes.grid t.study.addresses.now t.study.gp_map.now
tested-grid t = rw (t.counts, grid-of (study_of t.study)) (tested-keeps t).grid

-- its table has at most 1,152 numbers
pub tested-few : (t : TestedStudy) → length t.study.relative_grid_address.now ≤ 1152
tested-few t = let k : _ = tested-keeps t in omega (arith, k.rows_whole, k.rows-high)

-- all of it, where question 12 says yes
pub tested-ready : (t : TestedStudy) (weights flags : ℕ) → are_lengths t.sizes weights flags ≡ true → Ready (study_of t.study) t.sizes weights flags
tested-ready t weights flags y = ready-made (study_of t.study) t.sizes weights flags t.told t.counts y
