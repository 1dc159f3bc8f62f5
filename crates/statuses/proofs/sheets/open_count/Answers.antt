-- `statuses::sheets::open_count` meets its contract.
use mathlib.Core.Path.{refl}
use mir.Syntax.{w64}
use mir.ValLaws.{to_z-of_z}
use Rattle.statuses.proofs.StatusLaws.{status-is}
use Rattle.statuses.proofs.sheets.open_count.Goals as goal

pub returns-clause-value : goal.returns-clause-value
returns-clause-value c =
    let is : _ = rw (to_z-of_z w64 c.args.tp_type c.ranges.tp_type, to_z-of_z w64 c.args.triplet c.ranges.triplet) at c.open_count.ensures in
    status-is _ _ _ _ refl is c.store.ensures.status
