-- The integration weights of the bands around grid points.
use Rattle.std.specs.Prelude.{◌≡◌, true, List, ℕ, ◌+◌, ◌*◌, ◌<◌, ◌≤◌, ℤ, Float, get_or, length}
use Rattle.std.specs.Float.{nan, binary64}
use Rattle.std.specs.Float.Ieee.{of_bits}
use Rattle.std.specs.Int.Signed.{mag}
use Rattle.list_laws.specs.Lists.{at, tabulate, rows, area}
use Rattle.question_grids.specs.Grids.{triples_in}
use Rattle.question_grids.specs.Tables.{is_table, rows_in}
use Rattle.bzgrid_lookup.specs.declared.BzGrid.{BzGrid}
use Rattle.bzgrid_lookup.specs.Neighbours.{neighbour_of, wanted_address, SoundGrid}
use Rattle.tetrahedron_method.specs.declared.WeightFunction.{WeightFunction}
use Rattle.tetrahedron_method.specs.Weight.{weight_of}

-- what the weights are made from: the grid, its addresses and map, the table, the map to irreducible points, their frequencies, the points, I or J
pub record GridStudy : Type 0 where
  pub grid : BzGrid
  pub addresses : List ℤ
  pub gp-map : List ℤ
  pub table : List ℤ
  pub irreducible : List ℤ
  pub frequencies : List Float
  pub bands : ℕ
  pub points : List Float
  pub function : WeightFunction

-- the study of these parts
abbrev pub study : BzGrid → List ℤ → List ℤ → List ℤ → List ℤ → List Float → ℕ → List Float → WeightFunction → GridStudy
study grid addresses gp-map table irreducible frequencies bands points function =
    record {
      grid = grid;
      addresses = addresses;
      gp-map = gp-map;
      table = table;
      irreducible = irreducible;
      frequencies = frequencies;
      bands = bands;
      points = points;
      function = function;
    }

-- the irreducible point of corner j of the table around grid point gp
abbrev pub corner_of : BzGrid → List ℤ → List ℤ → List ℤ → List ℤ → ℕ → ℕ → ℕ
corner_of grid addresses gp-map table irreducible gp j = mag (at irreducible (neighbour_of grid addresses gp-map (wanted_address addresses table gp j)))

-- the irreducible points of all corners around grid point gp, in a work area
abbrev pub corners_of : GridStudy → ℕ → List ℕ
corners_of s gp = area 384 (triples_in s.table) (corner_of s.grid s.addresses s.gp-map s.table s.irreducible gp) 0

-- the frequency of a band at corner j around grid point gp
abbrev pub vertex_frequency : GridStudy → ℕ → ℕ → ℕ → Float
vertex_frequency s gp band j =
    get_or s.frequencies (corner_of s.grid s.addresses s.gp-map s.table s.irreducible gp j * s.bands + band) nan

-- the frequencies of a band at all corners, four to a row of the table
unfoldable pub vertex_frequencies : GridStudy → ℕ → ℕ → List Float
vertex_frequencies s gp band = tabulate (triples_in s.table) (vertex_frequency s gp band)

-- the integration weight of a band at frequency point x, around grid point gp
unfoldable pub grid_point_weight : GridStudy → ℕ → ℕ → ℕ → Float
grid_point_weight s gp x band = weight_of s.function (get_or s.points x nan) (vertex_frequencies s gp band) (rows_in s.table)

-- the weights of one grid point, by point, band
unfoldable pub weights_of : GridStudy → ℕ → List Float
weights_of s gp = rows (length s.points) (λ x. tabulate s.bands (λ band. grid_point_weight s gp x band))

-- "its weights lie by grid point, point, band"
unfoldable pub weights_of_all : GridStudy → List ℤ → List Float
weights_of_all s gridPoints = rows (length gridPoints) (λ i. weights_of s (mag (at gridPoints i)))

-- ---- by numbers of corners that are already known

-- the frequency of a band at corner j
abbrev pub corner_frequency : List ℕ → List Float → ℕ → ℕ → ℕ → Float
corner_frequency corners frequencies bands band j = get_or frequencies (get_or corners j 0 * bands + band) nan

-- the weight of a band at frequency point x
unfoldable pub corner_weight : List ℕ → ℕ → List Float → ℕ → List Float → WeightFunction → ℕ → ℕ → Float
corner_weight corners count frequencies bands points function x band =
    weight_of function (get_or points x nan) (area 384 (count * 4) (corner_frequency corners frequencies bands band) (of_bits binary64 0)) count

-- each of the first n corners has its frequency among so many
abbrev pub Held : List ℕ → ℕ → ℕ → ℕ → ℕ → Type 0
Held corners n count bands band = (j : ℕ) → j < n → get_or corners j 0 * bands + band < count

-- questions 4 to 7, 9 and 11 are answered yes: `count` is R, the count of irreducible points
pub record Sound (count : ℕ) (s : GridStudy) : Type 0 where
  pub sound-grid : SoundGrid s.grid s.addresses s.gp-map
  pub tabled : is_table s.table ≡ true
  pub mapped : length s.irreducible ≡ triples_in s.addresses
  pub few : length s.points * s.bands ≤ 65536
  pub held : length s.frequencies ≡ count * s.bands
  pub below : (k : ℕ) → k < length s.irreducible → mag (at s.irreducible k) < count
