-- `statuses::triplets::is_n` meets its contract.
use mathlib.Core.Path.{refl, ◌∙◌}
use Rattle.triplet_addresses.specs.Normal.{is_n_questions}
use Rattle.statuses.proofs.StatusLaws.{status-is, mapped-number}
use Rattle.statuses.proofs.triplets.is_n.Goals as goal

pub returns-clause-value : goal.returns-clause-value
returns-clause-value c =
    status-is (is_n_questions c.args.triplet c.args.bz_grid_addresses.now) _ _ _ refl c.is_n.ensures
    (c.store.ensures.status ∙ mapped-number _ _ _ c.map.ensures.cases c.map.ensures.variant)
