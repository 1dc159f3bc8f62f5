-- A piece of a tested study, and its outputs by the corners of its triplet.
use Rattle.std.specs.Prelude.{◌≡◌, ℕ, ◌+◌, ◌*◌, ◌<◌, Float, List, length}
use Rattle.triplet_values.specs.Values.{Held}
use Rattle.triplet_outputs.specs.declared.Outputs.{Outputs}
use Rattle.triplet_study.specs.declared.Sizes.{Sizes}
use Rattle.triplet_study.specs.Study.{Study}
use Rattle.triplet_piece.specs.declared.Corners.{Corners}
use Rattle.triplet_piece.specs.declared.Piece.{Piece}
use Rattle.triplet_piece.specs.Weights.{outputs_of_corners, first_corners, second_corners}

-- the corners of triplet t
abbrev pub AreCornersOf : Study → ℕ → Corners → Type 0
AreCornersOf s t c = (c.first ≡ first_corners s t) × (c.second ≡ second_corners s t)

-- the triplet and the bands are among those of the study
abbrev pub IsPiece : Sizes → Piece → Type 0
IsPiece z p = (p.triplet < z.triplets) × ((p.b1 < z.bands1) × (p.b2 < z.bands2))

-- its number
abbrev pub number_of : Sizes → Piece → ℕ
number_of z p = p.triplet * z.pairs + (p.b1 * z.bands2 + p.b2)

-- each of the corners has its frequency of the piece's band, of frequencies f1 and f2
abbrev pub IsHeld : Sizes → List Float → List Float → Corners → Piece → Type 0
IsHeld z f1 f2 c p =
    Held c.first (z.rows * 4) (length f1) z.bands1 p.b1
    × Held c.second (z.rows * 4) (length f2) z.bands2 p.b2

-- the outputs at point x of the points
abbrev pub outputs_of_piece : Sizes → List Float → List Float → List Float → Corners → Piece → ℕ → Outputs
outputs_of_piece z f1 f2 points c p x = outputs_of_corners z points c.first c.second f1 p.b1 f2 p.b2 x
