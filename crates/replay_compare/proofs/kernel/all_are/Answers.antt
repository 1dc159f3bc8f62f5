-- `replay_compare::kernel::all_are` meets its contract.
use borrow.Author.Tests.{tests}
use lib.IntN.{pos}
use mathlib.Core.Path.{◌∙◌}
use Rattle.std.proofs.Common.{rules}
use Rattle.std.proofs.lemmas.Iterator.{YieldsList-from_slice}
use Rattle.std.proofs.lemmas.Iterator.Search.{all_from_yields_List}
use Rattle.list_laws.proofs.ChainLaws.{all-list}
use Rattle.list_laws.specs.Signed.{eq_z}
use Rattle.replay_compare.specs.Sameness.{all_are}
use Rattle.replay_compare.proofs.kernel.all_are.Goals as goal

pub returns : goal.returns
unfolding all_are
returns c =
    all_from_yields_List (λ v. eq_z v c.args.value) _ _ _ c.all.ensures.ran (YieldsList-from_slice c.args.a.now cc) (λ x b q k. search (rules, tests))
    ∙ all-list (λ v. eq_z v c.args.value) (pos 0) c.args.a.now
