-- The corners around a grid point have their frequencies, and the weights by numbers of corners are those of the study. Assumes nothing.
use mathlib.Core.Path.{◌≡◌, sym, ◌∙◌, ap}
use mathlib.Core.List.{List}
use Prim.Native.Nat.{ℕ, ◌+◌, ◌*◌, ◌<◌}
use native.Mathlib.Omega.{arith}
use lib.Ieee.{Float, nan, binary64, of_bits}
use lib.ListN.{get_or, length}
use Rattle.list_laws.specs.Lists.{area, tabulate}
use Rattle.list_laws.specs.Columns.{BeforeColumn}
use Rattle.list_laws.specs.Matrix.{Replaced}
use Rattle.list_laws.proofs.FillLaws.{area-at, tabulate-at}
use Rattle.list_laws.proofs.ProductLaws.{digit_lt}
use Rattle.list_laws.proofs.ColumnLaws.{columns-all}
use Rattle.list_laws.proofs.MatrixLaws.{replaced-as}
use Rattle.question_grids.specs.Grids.{triples_in}
use Rattle.question_grids.specs.Tables.{rows_in}
use Rattle.question_grids.proofs.TableLaws.{corners-whole}
use Rattle.bzgrid_lookup.specs.Neighbours.{wanted_address}
use Rattle.bzgrid_lookup.proofs.NeighbourLaws.{neighbour-lt}
use Rattle.tetrahedron_method.proofs.SortedLaws.{weight-same}
use Rattle.grid_point_weights.specs.Weights.{GridStudy, Sound, corner_of, corners_of, vertex_frequency, vertex_frequencies, grid_point_weight, weights_of, corner_frequency, corner_weight, Held}

module _ (s : GridStudy) {count : ℕ} (h : Sound count s) (gp : ℕ) where
  corner : ℕ → ℕ
  corner j = corner_of s.grid s.addresses s.gp-map s.table s.irreducible gp j

  corner-at : (j : ℕ) → j < rows_in s.table * 4 → get_or (corners_of s gp) j 0 ≡ corner j
  unfolding corner
  corner-at j l = area-at 384 corner 0 (triples_in s.table) 0 j (omega (arith, corners-whole s.table h.tabled))

  corner-lt : (j : ℕ) → corner j < count
  unfolding corner
  corner-lt j =
      h.below _ (omega (arith, h.mapped, neighbour-lt s.grid s.addresses s.gp-map h.sound-grid (wanted_address s.addresses s.table gp j)))

  -- each corner has its frequency
  pub corners-held : (band : ℕ) → band < s.bands → Held (corners_of s gp) (rows_in s.table * 4) (length s.frequencies) s.bands band
  corners-held band l j m = rw (corner-at j m) (omega (arith, h.held, digit_lt (corner j) count band s.bands (corner-lt j) l))

  -- the weight by numbers of corners is that of the study
  pub weight-of : (x band : ℕ) → corner_weight (corners_of s gp) (rows_in s.table) s.frequencies s.bands s.points s.function x band ≡ grid_point_weight s gp x band
  unfolding corner_weight grid_point_weight vertex_frequencies corner
  weight-of x band =
      let n : ℕ = rows_in s.table in
      let f : ℕ → Float = corner_frequency (corners_of s gp) s.frequencies s.bands band in
      weight-same s.function (get_or s.points x nan) (area 384 (n * 4) f (of_bits binary64 0)) (tabulate (triples_in s.table) (vertex_frequency s gp band)) n
      (λ j l.
      area-at 384 f (of_bits binary64 0) (n * 4) nan j l
      ∙ ap (λ (k : ℕ). get_or s.frequencies (k * s.bands + band) nan) (corner-at j l)
      ∙ sym (tabulate-at (triples_in s.table) (vertex_frequency s gp band) nan j (omega (arith, corners-whole s.table h.tabled))))

  -- once every band is filled
  pub weights-all : (m₀ m : List Float) → length m₀ ≡ length s.points * s.bands
      → Replaced nan s.bands (BeforeColumn (length s.points) s.bands) (λ x b. corner_weight (corners_of s gp) (rows_in s.table) s.frequencies s.bands s.points s.function x b) m₀ m
      → m ≡ weights_of s gp
  unfolding weights_of
  weights-all m₀ m e R = columns-all nan (length s.points) s.bands (λ x b. grid_point_weight s gp x b) m₀ m e (replaced-as R (λ x b q. weight-of x b))
