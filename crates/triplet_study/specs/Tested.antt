-- What the questions have told of a study, of its counts and of the lent lists.
use Rattle.std.specs.Prelude.{◌≡◌, true, ℕ, ◌*◌, ◌<◌, ◌≤◌, length}
use Rattle.std.specs.Int.Signed.{mag}
use Rattle.list_laws.specs.Lists.{at}
use Rattle.question_grids.specs.Grids.{are_triples, triples_in}
use Rattle.question_grids.specs.Tables.{rows_in}
use Rattle.bzgrid_lookup.specs.Neighbours.{SoundGrid}
use Rattle.triplet_study.specs.declared.Sizes.{Sizes}
use Rattle.triplet_study.specs.Study.{Study, grid_in, bands1_in, bands2_in, triplet_count, sizes_of}

-- what 3 to 11 told of a study
pub record Tested (s : Study) : Type 0 where
  pub grid : SoundGrid (grid_in s) s.addresses s.gp-map
  pub table : are_triples s.steps ≡ true
  pub rows-low : 1 ≤ rows_in s.steps
  pub rows-high : rows_in s.steps ≤ 96
  pub rows_whole : length s.steps ≡ rows_in s.steps * 12
  pub bands1-low : 1 ≤ bands1_in s
  pub bands1-high : bands1_in s ≤ 64
  pub bands2-low : 1 ≤ bands2_in s
  pub bands2-high : bands2_in s ≤ 64
  pub points-low : 1 ≤ length s.points
  pub points-high : length s.points ≤ 1024
  pub triplets-high : triplet_count s ≤ 65536
  pub triplets-whole : length s.triplets ≡ triplet_count s * 3
  pub triplets-at : (k : ℕ) → k < length s.triplets → mag (at s.triplets k) < triples_in s.addresses
  pub held1 : length s.frequencies1 ≡ triples_in s.addresses * bands1_in s
  pub held2 : length s.frequencies2 ≡ triples_in s.addresses * bands2_in s

-- what they told of its counts
pub record Counted (z : Sizes) : Type 0 where
  pub channels-few : z.channels ≤ 3
  pub triplets-few : z.triplets ≤ 65536
  pub points-some : 1 ≤ z.points
  pub points-few : z.points ≤ 1024
  pub bands1-some : 1 ≤ z.bands1
  pub bands1-few : z.bands1 ≤ 64
  pub bands2-some : 1 ≤ z.bands2
  pub bands2-few : z.bands2 ≤ 64
  pub pairs-some : 1 ≤ z.pairs
  pub pairs-few : z.pairs ≤ 4096
  pub pairs-are : z.pairs ≡ z.bands1 * z.bands2
  pub cells-few : z.cells ≤ 274877906944
  pub cells_are : z.cells ≡ z.triplets * z.points * z.pairs
  pub rows-some : 1 ≤ z.rows
  pub rows_few : z.rows ≤ 96

-- the points, the weights and the flags are as many as the counts say: what 12 told
pub record Fitting (z : Sizes) (points weights flags : ℕ) : Type 0 where
  pub pointed : points ≡ z.points
  pub weighed : weights ≡ z.channels * z.cells
  pub flagged : flags ≡ z.cells

-- all of it, of a study with the counts z
pub record Ready (s : Study) (z : Sizes) (weights flags : ℕ) : Type 0 where
  pub tested : Tested s
  pub counts : z ≡ sizes_of s
  pub fits : Fitting z (length s.points) weights flags
