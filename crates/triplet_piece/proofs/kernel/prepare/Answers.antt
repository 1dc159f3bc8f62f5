-- `triplet_piece::kernel::prepare` meets its contract.
use lib.Ieee.{nan}
use lib.ListN.{get_or}
use Rattle.triplet_piece.proofs.AreaLaws.{outputs-after}
use Rattle.triplet_piece.specs.Weights.{outputs_of_corners}
use Rattle.triplet_piece.proofs.kernel.prepare.Goals as goal

pub returns : goal.returns
unfolding outputs_of_corners
returns c = λ x. outputs-after c.args.study.now.sizes.tp c.args.study.now.sizes.rows c.further_rows.result c.further_rows.ensures.by_type (rw c.corners.ensures at c.fill_frequencies.ensures) (rw c.corners.ensures at c.fill_frequencies-2.ensures) _ c.prepare_channel.ensures c.prepare_channel-2.ensures c.prepare_channel-3.ensures (get_or c.args.study.now.frequency_points.now x nan) c.args.study.now.counted.rows-some
