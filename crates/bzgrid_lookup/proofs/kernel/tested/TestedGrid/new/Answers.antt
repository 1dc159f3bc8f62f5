-- `bzgrid_lookup::kernel::tested::TestedGrid::new` meets its contract.
use mir.Syntax.{w64}
use mir.Val.{SFits}
use mir.ValLaws.{to_z-of_z}
use Rattle.std.proofs.Common.{rules}
use Rattle.bzgrid_lookup.proofs.CallLaws.{sound-grid}
use Rattle.bzgrid_lookup.proofs.kernel.tested.TestedGrid.new.Goals as goal

pub invariant_of-result : goal.invariant_of-result
invariant_of-result c =
    let f : SFits w64 c.args.grid.bz_grid_type = search rules in
    let b : _ = to_z-of_z w64 c.args.grid.bz_grid_type f in
    record { sound = rw (rw b at c.grid_of.ensures) (sound-grid c.args.grid.bz_grid_type c.args.grid.d_diag c.args.grid.addresses.now c.args.grid.gp_map.now c.requires) }
