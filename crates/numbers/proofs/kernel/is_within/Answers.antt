-- `numbers::kernel::is_within` meets its contract.
use mir.Syntax.{w64}
use mir.ValLaws.{to_z-of_z}
use Rattle.list_laws.specs.Signed.{within}
use Rattle.numbers.proofs.kernel.is_within.Goals as goal

pub returns : goal.returns
unfolding within
returns c =
    cc (to_z-of_z w64 c.args.z c.ranges.z, c.unsigned_abs.ensures.value)
