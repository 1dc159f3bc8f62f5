-- A study as a caller gives it, and its counts.
use Rattle.std.specs.Prelude.{List, ℕ, ◌*◌, ◌/◌, ℤ, Float, length}
use Rattle.std.specs.Int.Signed.{mag}
use Rattle.question_grids.specs.Tables.{rows_in}
use Rattle.bzgrid_lookup.specs.declared.BzGrid.{BzGrid}
use Rattle.bzgrid_lookup.specs.Neighbours.{grid_of}
use Rattle.triplet_types.specs.declared.TpType.{TpType}
use Rattle.triplet_types.specs.Types.{tp_type_of, channel_count}
use Rattle.triplet_study.specs.declared.Shape.{Shape}
use Rattle.triplet_study.specs.declared.Sizes.{Sizes}

-- "The study (grid, addresses, map, table, type, bands, frequencies, points, triplets)"
pub record Study : Type 0 where
  pub shape : Shape
  pub addresses : List ℤ
  pub gp-map : List ℤ
  pub steps : List ℤ
  pub frequencies1 : List Float
  pub frequencies2 : List Float
  pub points : List Float
  pub triplets : List ℤ

-- a study from its parts
abbrev pub study : Shape → List ℤ → List ℤ → List ℤ → List Float → List Float → List Float → List ℤ → Study
study shape addresses gp-map steps frequencies1 frequencies2 points triplets = record {
  shape = shape;
  addresses = addresses;
  gp-map = gp-map;
  steps = steps;
  frequencies1 = frequencies1;
  frequencies2 = frequencies2;
  points = points;
  triplets = triplets;
}

-- its type
abbrev pub tp_in : Study → TpType
tp_in s = tp_type_of s.shape.tp_type

-- its grid
abbrev pub grid_in : Study → BzGrid
grid_in s = grid_of s.shape.bz_grid_type s.shape.d_diag

-- its bands, of the second and of the third point
abbrev pub bands1_in : Study → ℕ
bands1_in s = mag s.shape.num_band1

abbrev pub bands2_in : Study → ℕ
bands2_in s = mag s.shape.num_band2

-- how many whole triplets it has
abbrev pub triplet_count : Study → ℕ
triplet_count s = length s.triplets / 3

-- the counts by the shape, the rows of the table, the points and the triplets
unfoldable pub sizes_by : Shape → ℕ → ℕ → ℕ → Sizes
sizes_by shape rows points triplets = record {
  channels = channel_count (tp_type_of shape.tp_type);
  triplets = triplets;
  points = points;
  bands1 = mag shape.num_band1;
  bands2 = mag shape.num_band2;
  pairs = mag shape.num_band1 * mag shape.num_band2;
  cells = triplets * points * (mag shape.num_band1 * mag shape.num_band2);
  rows = rows;
  tp = tp_type_of shape.tp_type;
  grid = grid_of shape.bz_grid_type shape.d_diag;
  shape = shape;
}

-- the counts of a study
abbrev pub sizes_of : Study → Sizes
sizes_of s = sizes_by s.shape (rows_in s.steps) (length s.points) (triplet_count s)
