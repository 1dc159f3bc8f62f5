-- `grid_point_weights::kernel::weigh` meets its contract.
use lib.ListN.{length}
use lib.Signed.{mag}
use mathlib.Core.Path.{◌≡◌}
use mir.Syntax.{w64}
use mir.Val.{SFits}
use mir.ValLaws.{to_z-of_z}
use Rattle.std.proofs.Common.{rules}
use Rattle.bzgrid_lookup.specs.Neighbours.{grid_of}
use Rattle.grid_point_weights.proofs.CallLaws.{passed, passed-rows}
use Rattle.grid_point_weights.specs.Calls.{call_of}
use Rattle.grid_point_weights.proofs.kernel.weigh.Goals.{After-magnitude}
use Rattle.grid_point_weights.proofs.kernel.weigh.Goals as goal

-- the numbers of bands and of the grid's kind as the code has them
bands-are : (c : After-magnitude) → c.magnitude.result ≡ mag c.args.study.num_band
bands-are c =
    let b : SFits w64 c.args.study.num_band = search rules in
    rw (to_z-of_z w64 c.args.study.num_band b) at c.magnitude.ensures

grid-is : (c : After-magnitude) → c.grid_of.result ≡ grid_of c.args.study.grid.bz_grid_type c.args.study.grid.d_diag
grid-is c =
    let k : SFits w64 c.args.study.grid.bz_grid_type = search rules in
    rw (to_z-of_z w64 c.args.study.grid.bz_grid_type k) at c.grid_of.ensures

pub invariant_of-rows : goal.invariant_of-rows
invariant_of-rows c = record { few = passed-rows (call_of c.args.study c.args.grid_points.now) (length c.args.iw.now) c.requires }

pub invariant_of-tested-clause-sound : goal.invariant_of-tested-clause-sound
invariant_of-tested-clause-sound c =
    let at = (goal.at.invariant_of-tested-clause-sound c).After-magnitude in
    rw (grid-is at, bands-are at) (passed (call_of c.args.study c.args.grid_points.now) (length c.args.iw.now) c.requires).0

pub fill_all-requires : goal.fill_all-requires
fill_all-requires c =
    rw (bands-are (goal.at.fill_all-requires c).After-magnitude) (passed (call_of c.args.study c.args.grid_points.now) (length c.args.iw.now) c.requires).1

pub returns : goal.returns
returns c =
    let at = (goal.at.returns c).After-magnitude in rw (grid-is at, bands-are at) at c.fill_all.ensures
