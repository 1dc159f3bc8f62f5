-- `sheet_counts::kernel::cells_per_triplet` meets its contract.
use borrow.Author.Rules.{rules}
use lib.Signed.{mag}
use mathlib.Core.Path.{◌≡◌}
use native.Mathlib.Omega.{arith}
use Rattle.list_laws.proofs.SignedLaws.{back}
use Rattle.sheet_counts.proofs.SheetCountLaws.{cells-le, pair-le}
use Rattle.sheet_counts.specs.SheetCounts.{cells_per_triplet}
use Rattle.sheet_counts.proofs.kernel.cells_per_triplet.Goals.{After-magnitude-bands1, After-magnitude-bands2, After-magnitude-points}
use Rattle.sheet_counts.proofs.kernel.cells_per_triplet.Goals as goal

points-are : (c : After-magnitude-points) → c.magnitude-points.result ≡ mag c.args.counts.num_band0
points-are c = rw (back c.args.counts.num_band0 (search rules)) at c.magnitude-points.ensures

bands1-are : (c : After-magnitude-bands1) → c.magnitude-bands1.result ≡ mag c.args.counts.num_band1
bands1-are c = rw (back c.args.counts.num_band1 (search rules)) at c.magnitude-bands1.ensures

bands2-are : (c : After-magnitude-bands2) → c.magnitude-bands2.result ≡ mag c.args.counts.num_band2
bands2-are c = rw (back c.args.counts.num_band2 (search rules)) at c.magnitude-bands2.ensures

pub overflow_mul-result : goal.overflow_mul-result
overflow_mul-result c =
    rw (bands1-are (goal.at.overflow_mul-result c).After-magnitude-bands1, bands2-are (goal.at.overflow_mul-result c).After-magnitude-bands2) (omega (arith, pair-le c.args.counts c.requires))

pub overflow_mul-result-2 : goal.overflow_mul-result-2
unfolding cells_per_triplet
overflow_mul-result-2 c =
    rw (points-are (goal.at.overflow_mul-result-2 c).After-magnitude-points, bands1-are (goal.at.overflow_mul-result-2 c).After-magnitude-bands1, bands2-are (goal.at.overflow_mul-result-2 c).After-magnitude-bands2) (omega (arith, cells-le c.args.counts c.requires))

pub returns : goal.returns
unfolding cells_per_triplet
returns c = rw (points-are (goal.at.returns c).After-magnitude-points, bands1-are (goal.at.returns c).After-magnitude-bands1, bands2-are (goal.at.returns c).After-magnitude-bands2)
