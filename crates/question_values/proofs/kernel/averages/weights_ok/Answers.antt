-- `question_values::kernel::averages::weights_ok` meets its contract.
use borrow.Author.Tests.{tests}
use lib.Ieee.{nan}
use mathlib.Core.Path.{◌∙◌}
use Rattle.std.proofs.Common.{rules}
use Rattle.std.proofs.lemmas.Iterator.{YieldsList-from_slice}
use Rattle.std.proofs.lemmas.Iterator.Search.{all_from_yields_List}
use Rattle.list_laws.proofs.ChainLaws.{all-list}
use Rattle.question_values.specs.Averages.{is_weight, are_weights}
use Rattle.question_values.proofs.kernel.averages.weights_ok.Goals as goal

pub returns : goal.returns
unfolding are_weights
returns c =
    all_from_yields_List is_weight _ _ _ c.all.ensures.ran (YieldsList-from_slice c.args.w.now cc) (λ x b q k. search (rules, tests))
    ∙ all-list is_weight nan c.args.w.now
