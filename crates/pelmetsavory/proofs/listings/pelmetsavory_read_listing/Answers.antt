-- `pelmetsavory::listings::pelmetsavory_read_listing` meets its contract: the answer as a number.
use mathlib.Core.Path.{◌∙◌, ap, refl}
use mir.Syntax.{w64}
use mir.ValLaws.{to_z-of_z}
use Rattle.ask.proofs.RefusalLaws.{first-low, number-is}
use Rattle.ask.specs.Refusals.{number_of}
use Rattle.pelmetsavory.proofs.listings.pelmetsavory_read_listing.Goals as goal

pub returns-clause-value : goal.returns-clause-value
returns-clause-value c =
    let e : _ = rw (to_z-of_z w64 c.args.tp_type c.ranges.tp_type) at c.read_listing.ensures.value in
    c.status_of.ensures ∙ ap number_of e ∙ number-is _ tt (first-low _ refl)
