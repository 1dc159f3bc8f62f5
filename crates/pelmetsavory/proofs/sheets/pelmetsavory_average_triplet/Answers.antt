-- `pelmetsavory::sheets::pelmetsavory_average_triplet` meets its contract.
use borrow.Author.Rules.{rules}
use mathlib.Core.Path.{refl}
use mir.Syntax.{w64}
use mir.ValLaws.{to_z-of_z}
use Rattle.pelmetsavory.proofs.SheetLaws.{called}
use Rattle.pelmetsavory.proofs.sheets.pelmetsavory_average_triplet.Goals as goal

pub returns : goal.returns
returns c =
    called _ _ _ _ (rw (to_z-of_z w64 c.args.triplet c.ranges.triplet) refl) c.average_triplet-done.result _ _ _ _ _ c.average_triplet-done.ensures.did c.settle.ensures.tally_after _ c.settle.ensures.status (search rules) (search rules) (search rules)
