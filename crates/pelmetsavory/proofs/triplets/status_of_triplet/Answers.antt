-- `pelmetsavory::triplets::status_of_triplet` meets its contract: the answer as a status.
use Rattle.ask.proofs.RefusalLaws.{first-low, number-is}
use Rattle.ask.specs.Refusals.{number_of}
use Rattle.triplet_iw.specs.Calls.{weights_questions}
use Rattle.triplet_study.specs.Lent.{with_triplet}
use lib.ListN.{length}
use mathlib.Core.Path.{◌∙◌, ap, refl}
use Rattle.pelmetsavory.proofs.triplets.status_of_triplet.Goals as goal

pub returns : goal.returns
returns c =
    (c.status_of.ensures ∙ ap number_of c.integration_weight_per_triplet.ensures.0 ∙ number-is _ tt (first-low (weights_questions (with_triplet c.args.study c.args.triplet) (length c.args.weights.now) (length c.args.flags.now)) refl), c.integration_weight_per_triplet.ensures.1)
