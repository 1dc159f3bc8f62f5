-- `pelmetsavory::tetrahedra::pelmetsavory_checked_integration_weights_at_grid_points` meets its contract.
use borrow.Author.Rules.{rules}
use mathlib.Core.Path.{refl}
use mir.Facts.{to_z-of_z}
use mir.Syntax.{w64}
use Rattle.pelmetsavory.proofs.CallLaws.{called-weigh-checked}
use Rattle.pelmetsavory.proofs.tetrahedra.pelmetsavory_checked_integration_weights_at_grid_points.Goals as goal

pub returns : goal.returns
returns c =
    called-weigh-checked _ _ (rw (c.lent.ensures, to_z-of_z {w = w64} {z = c.args.num_band} (search rules), to_z-of_z {w = w64} {z = c.args.num_ir} (search rules), c.function_of.ensures) refl) c.checked_integration_weights_at_grid_points.result _ _ c.checked_integration_weights_at_grid_points.ensures _ c.status_of.ensures
