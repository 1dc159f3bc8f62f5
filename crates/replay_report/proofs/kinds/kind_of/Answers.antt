-- `replay_report::kinds::kind_of` meets its contract.
use Rattle.std.proofs.Common.{eqb, rules, tests}
use Rattle.std.proofs.lemmas.Iterator.{YieldsList-from_slice}
use Rattle.std.proofs.lemmas.Iterator.Search.{find_from_yields_List}
use Rattle.replay_report.proofs.KindLaws.{kind-mapped}
use Rattle.replay_report.proofs.kinds.kind_of.Goals as goal

pub returns : goal.returns
returns g c =
    kind-mapped c.args.kinds.now c.args.number c.find.result c.map.result (search rules)
    (find_from_yields_List (λ p. eqb p.0 c.args.number) _ _ _ c.find.ensures.ran (YieldsList-from_slice c.args.kinds.now cc) (λ x b q k. search (rules, tests)))
