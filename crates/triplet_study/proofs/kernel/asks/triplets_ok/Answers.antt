-- `triplet_study::kernel::asks::triplets_ok` meets its contract.
use Rattle.triplet_study.specs.Questions.{are_triplets}
use Rattle.triplet_study.proofs.kernel.asks.triplets_ok.Goals as goal

pub returns : goal.returns
unfolding are_triplets
returns c =
    cc
