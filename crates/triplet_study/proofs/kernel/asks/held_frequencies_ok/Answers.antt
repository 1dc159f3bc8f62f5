-- `triplet_study::kernel::asks::held_frequencies_ok` meets its contract.
use Rattle.triplet_study.specs.Questions.{hold_frequencies}
use Rattle.triplet_study.proofs.kernel.asks.held_frequencies_ok.Goals as goal

pub returns : goal.returns
unfolding hold_frequencies
returns c =
    cc
