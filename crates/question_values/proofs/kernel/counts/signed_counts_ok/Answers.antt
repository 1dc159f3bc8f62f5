-- `question_values::kernel::counts::signed_counts_ok` meets its contract.
use mir.Syntax.{w64}
use mir.ValLaws.{to_z-of_z}
use Rattle.list_laws.proofs.SignedLaws.{le_z-zero}
use Rattle.question_values.proofs.CountLaws.{signs-first}
use Rattle.question_values.proofs.kernel.counts.signed_counts_ok.Goals as goal

pub returns : goal.returns
returns c =
    cc (
      signs-first c.args.num_band1 c.args.num_band2 c.args.points c.args.many,
      to_z-of_z w64 c.args.num_band1 c.ranges.num_band1,
      to_z-of_z w64 c.args.num_band2 c.ranges.num_band2,
      to_z-of_z w64 c.args.points c.ranges.points,
      to_z-of_z w64 c.args.many c.ranges.many,
      le_z-zero c.args.points,
      le_z-zero c.args.many,
    )
