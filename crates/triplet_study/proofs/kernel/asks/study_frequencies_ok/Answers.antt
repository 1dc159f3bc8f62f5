-- `triplet_study::kernel::asks::study_frequencies_ok` meets its contract.
use Rattle.triplet_study.specs.Questions.{are_study_frequencies}
use Rattle.triplet_study.proofs.kernel.asks.study_frequencies_ok.Goals as goal

pub returns : goal.returns
unfolding are_study_frequencies
returns c =
    cc
