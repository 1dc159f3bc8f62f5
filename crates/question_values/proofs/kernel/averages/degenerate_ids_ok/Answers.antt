-- `question_values::kernel::averages::degenerate_ids_ok` meets its contract.
use borrow.Author.Tests.{tests, eq-eqb}
use mathlib.Core.Path.{◌∙◌, refl}
use native.Mathlib.Omega.{arith}
use Rattle.std.proofs.Common.{rules}
use Rattle.std.proofs.lemmas.Iterator.{YieldsList-from_range}
use Rattle.std.proofs.lemmas.Iterator.Search.{all_from_yields_List}
use Rattle.list_laws.proofs.ChainLaws.{all-upto}
use Rattle.question_values.specs.Averages.{is_degenerate_id, are_degenerate_ids}
use Rattle.question_values.proofs.kernel.averages.degenerate_ids_ok.Goals as goal

pub returns-then-ids-bands : goal.returns-then-ids-bands
unfolding are_degenerate_ids
returns-then-ids-bands c =
    rw (eq-eqb _ _ c.if-ids-bands.true)
    (all_from_yields_List (is_degenerate_id c.args.ids.now) _ _ _ c.all.ensures.ran (YieldsList-from_range 0 c.args.bands c.args.bands refl (omega arith)) (λ x b q k. search (rules, tests))
    ∙ all-upto (is_degenerate_id c.args.ids.now) c.args.bands)
