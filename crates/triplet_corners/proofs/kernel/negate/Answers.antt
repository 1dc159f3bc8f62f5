-- `triplet_corners::kernel::negate` meets its contract.
use mir.Syntax.{w64}
use mir.ValLaws.{to_z-of_z}
use Rattle.list_laws.proofs.SignedLaws.{zero-sub}
use Rattle.triplet_corners.proofs.CornerLaws.{small-fits, small-neg}
use Rattle.triplet_corners.proofs.kernel.negate.Goals as goal

pub overflow_sub-result : goal.overflow_sub-result
overflow_sub-result c =
    rw (to_z-of_z w64 c.args.z c.ranges.z, zero-sub c.args.z) (small-fits _ (small-neg c.args.z c.requires))

pub returns : goal.returns
returns c =
    rw (to_z-of_z w64 c.args.z c.ranges.z, zero-sub c.args.z) (to_z-of_z w64 _ (small-fits _ (small-neg c.args.z c.requires)))
