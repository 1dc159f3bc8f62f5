-- `sheet_counts::kernel::cells_of` meets its contract.
use borrow.Author.Rules.{rules}
use lib.Signed.{mag}
use mathlib.Core.Path.{◌≡◌}
use native.Mathlib.Omega.{arith}
use Rattle.list_laws.proofs.SignedLaws.{back}
use Rattle.sheet_counts.proofs.SheetCountLaws.{all-cells-le}
use Rattle.sheet_counts.proofs.kernel.cells_of.Goals.{After-magnitude}
use Rattle.sheet_counts.proofs.kernel.cells_of.Goals as goal

triplets-are : (c : After-magnitude) → c.magnitude.result ≡ mag c.args.counts.num_triplets
triplets-are c = rw (back c.args.counts.num_triplets (search rules)) at c.magnitude.ensures

pub overflow_mul-result : goal.overflow_mul-result
overflow_mul-result c =
    rw (triplets-are (goal.at.overflow_mul-result c).After-magnitude, c.cells_per_triplet.ensures) (omega (arith, all-cells-le c.args.counts c.requires))
