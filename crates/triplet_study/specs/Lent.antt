-- A study as a contract names it: the lent lists at a call's entry.
use Rattle.std.specs.Prelude.{List, Float, ℤ}
use Rattle.std.specs.Borrow.{Bor}
use Rattle.ask.specs.Lent.{Lent}
use Rattle.question_grids.specs.declared.Grid.{Grid}
use Rattle.triplet_study.specs.declared.Shape.{Shape}
use Rattle.triplet_study.specs.declared.Study.{Study as LentStudy}
use Rattle.triplet_study.specs.Study.{Study, study}

-- the study of lists that are lent, as a `requires` names them
abbrev pub study_now : Shape → Bor (List ℤ) → Bor (List ℤ) → Bor (List ℤ) → Bor (List Float) → Bor (List Float) → Bor (List Float) → Bor (List ℤ) → Study
study_now shape addresses gp-map steps frequencies1 frequencies2 points triplets =
    study shape addresses.now gp-map.now steps.now frequencies1.now frequencies2.now points.now triplets.now

-- the study that a call takes, as its `ensures` names them
abbrev pub study_in : Shape → Lent ℤ → Lent ℤ → Lent ℤ → Lent Float → Lent Float → Lent Float → Lent ℤ → Study
study_in shape addresses gp-map steps frequencies1 frequencies2 points triplets =
    study_now shape addresses.entry gp-map.entry steps.entry frequencies1.entry frequencies2.entry points.entry triplets.entry

-- the study with one triplet, which is not lent
abbrev pub study_of_one : Shape → Lent ℤ → Lent ℤ → Lent ℤ → Lent Float → Lent Float → Lent Float → List ℤ → Study
study_of_one shape addresses gp-map steps frequencies1 frequencies2 points triplet =
    study shape addresses.entry.now gp-map.entry.now steps.entry.now frequencies1.entry.now frequencies2.entry.now points.entry.now triplet

-- the study that a lent one holds
abbrev pub study_of : LentStudy → Study
study_of s =
    study s.shape s.addresses.now s.gp_map.now s.relative_grid_address.now s.frequencies1.now s.frequencies2.now s.frequency_points.now s.triplets.now

-- the grid of a lent study
abbrev pub lent_grid : LentStudy → Grid
lent_grid s = record { bz_grid_type = s.shape.bz_grid_type; d_diag = s.shape.d_diag; addresses = s.addresses; gp_map = s.gp_map }

-- the study with one triplet, its own not looked at
abbrev pub with_triplet : LentStudy → List ℤ → Study
with_triplet s triplet =
    study s.shape s.addresses.now s.gp_map.now s.relative_grid_address.now s.frequencies1.now s.frequencies2.now s.frequency_points.now triplet
