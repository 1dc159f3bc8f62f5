-- `triplet_study::kernel::sizes_of` meets its contract.
use Rattle.triplet_study.specs.Study.{sizes_by}
use Rattle.triplet_study.proofs.StudyLaws.{cells_fit}
use Rattle.list_laws.proofs.SignedLaws.{back}
use borrow.Author.Rules.{rules}
use native.Mathlib.Omega.{arith}
use lib.Signed.{mag}
use Rattle.triplet_study.proofs.kernel.sizes_of.Goals as goal

pub overflow_mul-cells-2 : goal.overflow_mul-cells-2
overflow_mul-cells-2 c =
    let b1 : _ = rw (back c.args.shape.num_band1 (search rules)) at c.magnitude-bands1.ensures in
    let b2 : _ = rw (back c.args.shape.num_band2 (search rules)) at c.magnitude-bands2.ensures in
    rw (b1, b2) (let m : _ = cells_fit c.args.triplets c.args.points (mag c.args.shape.num_band1) (mag c.args.shape.num_band2) c.requires.1.1.1 c.requires.1.1.0 c.requires.0 c.requires.1.0 in omega (arith, m))

pub returns : goal.returns
unfolding sizes_by
returns c =
    let b1 : _ = rw (back c.args.shape.num_band1 (search rules)) at c.magnitude-bands1.ensures in
    let b2 : _ = rw (back c.args.shape.num_band2 (search rules)) at c.magnitude-bands2.ensures in
    let t : _ = rw (back c.args.shape.tp_type (search rules)) at c.tp_type_of-tp.ensures in
    let g : _ = rw (back c.args.shape.bz_grid_type (search rules)) at c.grid_of-grid.ensures in
    rw (b1, b2, c.num_channels-channels.ensures, t, g)
