-- `replay_input::reader::Reader::fill` meets its contract: at each turn the front of the buffer holds the first numbers.
use Prim.Native.Nat.{ℕ}
use lib.ListN.{length-set}
use mathlib.Core.Path.{◌∙◌, ap, refl}
use native.Mathlib.Omega.{arith}
use Rattle.list_laws.proofs.FillLaws.{front-all, front-none}
use Rattle.list_laws.specs.Lists.{tabulate}
use Rattle.replay_input.proofs.FieldLaws.{list-next}
use Rattle.replay_input.proofs.ReaderLaws.{filled-next}
use Rattle.replay_input.specs.Fields.{field_place, value_from}
use Rattle.replay_input.proofs.reader.Reader.fill.Goals as goal

pub loop-x-init : goal.loop-x-init
unfolding field_place
loop-x-init g c = (refl, front-none _ _, refl)

pub loop-x-preserved : goal.loop-x-preserved
loop-x-preserved g c =
    let n : _ = filled-next g.T.Field.value_at g.T.Field.after c.loop-x.self c.args.self.now c.loop-x.x-index c.loop-x.invariant.2 c.next.ensures.value c.next.ensures.next in
    (simp length-set (omega arith), list-next c.args.out.now (value_from g.T.Field.value_at g.T.Field.after c.args.self.now.text.now c.args.self.now.at) c.loop-x.x-index (omega arith) c.loop-x.invariant.1 n.0, n.1)

pub returns-clause-filled : goal.returns-clause-filled
returns-clause-filled g c =
    c.loop-x.invariant.1 ∙ front-all _ c.args.out.now c.loop-x.x-index (omega arith) ∙ ap (λ (n : ℕ). tabulate n (value_from g.T.Field.value_at g.T.Field.after c.args.self.now.text.now c.args.self.now.at)) (omega arith)
