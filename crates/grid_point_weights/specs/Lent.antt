-- A study as a caller lends it, once its grid and its count of bands are known.
use Rattle.std.specs.Prelude.{ℕ}
use Rattle.bzgrid_lookup.specs.declared.BzGrid.{BzGrid}
use Rattle.grid_point_weights.specs.declared.GridPointStudy.{GridPointStudy}
use Rattle.grid_point_weights.specs.Weights.{GridStudy, study}

-- what its weights are made from
abbrev pub lent_study : BzGrid → ℕ → GridPointStudy → GridStudy
lent_study grid bands s =
    study grid s.grid.addresses.now s.grid.gp_map.now s.relative_grid_address.now s.gp2irgp_map.now s.frequencies.now bands s.frequency_points.now s.function
