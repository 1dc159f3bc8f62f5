-- `triplet_corners::kernel::second_steps` meets its contract.
use Rattle.triplet_corners.proofs.CornerLaws.{second-put}
use Rattle.triplet_corners.proofs.kernel.second_steps.Goals as goal

pub returns : goal.returns
returns c =
    rw (c.fill_copy.ensures, c.is_negated.ensures) (second-put c.args.tp c.args.steps.triples.numbers.now)
