-- `statuses::triplets::num_channels` meets its contract.
use mathlib.Core.Path.{refl, ap, ◌∙◌}
use mir.Syntax.{w64}
use mir.ValLaws.{to_z-of_z}
use Rattle.triplet_types.specs.Types.{type_questions, tp_type_answer}
use Rattle.statuses.proofs.StatusLaws.{status-is, mapped-number}
use Rattle.statuses.proofs.triplets.num_channels.Goals as goal

pub returns-clause-value : goal.returns-clause-value
returns-clause-value c =
    status-is (type_questions c.args.tp_type) _ _ _ refl (c.try_from.ensures ∙ ap tp_type_answer (to_z-of_z w64 c.args.tp_type c.ranges.tp_type))
    (c.store.ensures.status ∙ mapped-number _ _ _ c.map.ensures.cases c.map.ensures.variant)
