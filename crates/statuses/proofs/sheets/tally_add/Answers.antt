-- `statuses::sheets::tally_add` meets its contract.
use mathlib.Core.Path.{refl, sym, ap, ◌∙◌}
use mir.Syntax.{w64}
use mir.ValLaws.{to_z-of_z}
use Rattle.ask.specs.Refusals.{number_of}
use Rattle.statuses.proofs.StatusLaws.{status-is}
use Rattle.statuses.proofs.sheets.tally_add.Goals as goal

pub returns-in-Err-clause-value : goal.returns-in-Err-clause-value
returns-in-Err-clause-value c =
    let is : _ = rw (to_z-of_z w64 c.args.worker c.ranges.worker) at c.add.ensures in
    status-is _ _ c.add.result _ refl is (c.number.ensures ∙ sym (ap number_of c.in-Err.is))
