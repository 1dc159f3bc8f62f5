-- `pelmetsavory::triplets::pelmetsavory_set_relative_grid_address` meets its contract: the answer as a status.
use Rattle.ask.proofs.RefusalLaws.{first-low, number-is}
use Rattle.ask.specs.Refusals.{number_of}
use Rattle.triplet_addresses.specs.Copies.{copy_questions}
use lib.ListN.{length}
use mathlib.Core.Path.{◌∙◌, ap, refl}
use mir.Syntax.{w64}
use mir.ValLaws.{to_z-of_z}
use Rattle.pelmetsavory.proofs.triplets.pelmetsavory_set_relative_grid_address.Goals as goal

pub returns-clause-value : goal.returns-clause-value
returns-clause-value c =
    let e : _ = rw (to_z-of_z w64 c.args.tp_type c.ranges.tp_type) at c.set_relative_grid_address-answer.ensures.value in
    c.status_of.ensures ∙ ap number_of e ∙ number-is _ tt (first-low (copy_questions c.args.relative_grid_address.now c.args.tp_type (length c.args.out.now)) refl)
