-- `pelmetsavory::tetrahedra::pelmetsavory_check_relative_grid_address` meets its contract.
use mathlib.Core.Path.{refl, ap, ◌∙◌}
use Rattle.ask.proofs.RefusalLaws.{first-low, number-is}
use Rattle.ask.specs.Refusals.{number_of}
use Rattle.table_rules.specs.Questions.{table_questions}
use Rattle.pelmetsavory.proofs.tetrahedra.pelmetsavory_check_relative_grid_address.Goals as goal

pub returns : goal.returns
returns c =
    c.status_of.ensures ∙ ap number_of c.check_relative_grid_address.ensures ∙ number-is _ tt (first-low (table_questions c.args.relative_grid_address.now) refl)
