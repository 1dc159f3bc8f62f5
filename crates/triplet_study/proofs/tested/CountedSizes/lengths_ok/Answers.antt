-- `triplet_study::tested::CountedSizes::lengths_ok` meets its contract.
use Rattle.std.proofs.Common.{rules}
use Rattle.triplet_study.specs.Questions.{are_lengths}
use Rattle.triplet_study.proofs.tested.CountedSizes.lengths_ok.Goals as goal

pub returns : goal.returns
unfolding are_lengths
returns c = search rules
