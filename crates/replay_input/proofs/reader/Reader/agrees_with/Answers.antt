-- `replay_input::reader::Reader::agrees_with` meets its contract: at each turn `agrees` speaks of the first fields.
use mathlib.Core.Path.{refl}
use native.Mathlib.Omega.{arith}
use Rattle.list_laws.specs.Lists.{tabulate}
use Rattle.replay_compare.proofs.AgreeLaws.{entries-all, entries-next}
use Rattle.replay_input.proofs.ReaderLaws.{filled-next}
use Rattle.replay_input.specs.Fields.{agrees_from, field_place}
use Rattle.replay_input.proofs.reader.Reader.agrees_with.Goals as goal

pub loop-x-init : goal.loop-x-init
unfolding field_place tabulate
loop-x-init g c = (refl, refl)

pub loop-x-preserved : goal.loop-x-preserved
loop-x-preserved g c =
    let n : _ = filled-next g.T.Field.value_at g.T.Field.after c.loop-x.self c.args.self.now c.loop-x.x-index c.loop-x.invariant.1 c.next.ensures.value c.next.ensures.next in
    (entries-next g.T.Compared.agrees c.args.list.now _ c.loop-x.x-index c.x-item.result c.loop-x-test.true c.x-item.is n.0 c.loop-x.invariant.0 c.agrees-agrees.ensures, n.1)

pub returns-clause-agrees : goal.returns-clause-agrees
unfolding agrees_from
returns-clause-agrees g c = entries-all g.T.Compared.agrees c.args.list.now _ (omega arith) c.loop-x.invariant.0
