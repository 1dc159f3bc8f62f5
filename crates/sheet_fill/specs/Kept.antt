-- The corners that the work areas of runs keep from one piece to the next.
use Rattle.std.specs.Prelude.{◌≡◌, ℕ, Some}
use Rattle.std.specs.declared.option.Option.{Option}
use Rattle.triplet_study.specs.Study.{Study}
use Rattle.triplet_study.specs.Lent.{study_of}
use Rattle.triplet_piece.specs.declared.Corners.{Corners}
use Rattle.triplet_piece.specs.Pieces.{AreCornersOf}
use Rattle.sheet_fill.specs.declared.prepared.PreparedStudy.{PreparedStudy}

-- the corners are those of the triplet that is held; no triplet's at first
pub record Kept (s : Study) (held : Option ℕ) (corners : Corners) : Type 0 where
  pub kept : (t : ℕ) → held ≡ Some t → AreCornersOf s t corners

-- the study that a prepared one holds
abbrev pub study_in : PreparedStudy → Study
study_in p = study_of p.tested.study
