-- `pelmetsavory::triplets::pelmetsavory_average_weights_over_degenerate_sets` meets its contract: the status is the number of the first no.
use mathlib.Core.Path.{refl, ap, ◌∙◌}
use mir.Syntax.{w64}
use mir.ValLaws.{to_z-of_z}
use Rattle.ask.specs.Refusals.{number_of}
use Rattle.ask.proofs.RefusalLaws.{number-is, first-low}
use Rattle.averaging.specs.Answers.{averaging_questions, averaging_no, averaging_answer}
use Rattle.pelmetsavory.proofs.triplets.pelmetsavory_average_weights_over_degenerate_sets.Goals as goal

pub returns-clause-value : goal.returns-clause-value
returns-clause-value c =
    let iw = c.args.iw.now in
    let iwz = c.args.iw_zero.now in
    let ids1 = c.args.degenerate_ids1.now in
    let ids2 = c.args.degenerate_ids2.now in
    let points = to_z-of_z w64 c.args.num_band0 c.ranges.num_band0 in
    let bands = to_z-of_z w64 c.args.num_band c.ranges.num_band in
    let type = to_z-of_z w64 c.args.tp_type c.ranges.tp_type in
    c.status_of.ensures
    ∙ ap number_of (c.average_weights_over_degenerate_sets.ensures.value ∙ (λ i. averaging_answer iw iwz ids1 ids2 (points i) (bands i) (type i)))
    ∙ number-is (averaging_no iw iwz ids1 ids2 c.args.num_band0 c.args.num_band c.args.tp_type) tt
    (first-low (averaging_questions iw iwz ids1 ids2 c.args.num_band0 c.args.num_band c.args.tp_type) refl)
