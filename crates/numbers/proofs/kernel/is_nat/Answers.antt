-- `numbers::kernel::is_nat` meets its contract.
use mir.Syntax.{w64}
use mir.ValLaws.{to_z-of_z}
use Rattle.list_laws.proofs.SignedLaws.{le_z-zero}
use Rattle.list_laws.specs.Signed.{is_nat}
use Rattle.numbers.proofs.kernel.is_nat.Goals as goal

pub returns : goal.returns
unfolding is_nat
returns c =
    cc (to_z-of_z w64 c.args.z c.ranges.z, le_z-zero c.args.z)
