-- `replay_input::reader::Reader::next_digits` meets its contract: what is read from here on gives what it gave at the start.
use Prim.Native.Nat.{ℕ}
use mathlib.Core.Path.{◌≡◌, ◌∙◌, ap, sym}
use mathlib.Core.List.{List}
use native.Mathlib.Omega.{arith}
use lib.ListN.{get_or}
use Rattle.text.specs.Fields.{digit_of}
use Rattle.replay_input.proofs.FieldLaws.{passed-end, passed-step, passed-stop, spelled-end, spelled-stop, spelled_step}
use Rattle.replay_input.proofs.ReaderLaws.{moved}
use Rattle.replay_input.specs.declared.reader.Reader.{Reader}
use Rattle.replay_input.proofs.reader.Reader.next_digits.Goals.{After-digit_of-d}
use Rattle.replay_input.proofs.reader.Reader.next_digits.Goals as goal

-- the digit is that of the text at this place
this-digit : (g : _) (c : After-digit_of-d g) → c.digit_of-d.result ≡ digit_of (get_or c.args.self.now.text.now c.loop-i.i 0)
this-digit g c = c.digit_of-d.ensures.value ∙ ap (λ (r : Reader). digit_of (get_or r.text.now c.loop-i.i 0)) c.loop-i.invariant.0

pub loop-i-preserved : goal.loop-i-preserved
loop-i-preserved g c =
    let d : _ = this-digit g (goal.at.loop-i-preserved g c).After-digit_of-d in
    let s : List ℕ = c.args.self.now.text.now in (
      moved c.loop-i.self c.args.self.now c.loop-i.invariant.0 (omega arith),
      sym (spelled_step g.row.BASE g.row.ROOM s c.loop-i.i c.loop-i.n c.digit_of-d.result (omega arith) d (omega arith)) ∙ c.loop-i.invariant.1,
      sym (passed-step g.row.BASE g.row.ROOM s c.loop-i.i c.loop-i.n c.digit_of-d.result (omega arith) d (omega arith)) ∙ c.loop-i.invariant.2,
    )

pub returns-then-d-clause-value : goal.returns-then-d-clause-value
returns-then-d-clause-value g c =
    let d : _ = this-digit g (goal.at.returns-then-d-clause-value g c).After-digit_of-d in
    sym (spelled-stop g.row.BASE g.row.ROOM c.args.self.now.text.now c.loop-i.i c.loop-i.n c.digit_of-d.result (omega arith) d (omega arith)) ∙ c.loop-i.invariant.1

pub returns-then-d-clause-next : goal.returns-then-d-clause-next
returns-then-d-clause-next g c =
    let d : _ = this-digit g (goal.at.returns-then-d-clause-next g c).After-digit_of-d in
    moved c.loop-i.self c.args.self.now c.loop-i.invariant.0 (sym (passed-stop g.row.BASE g.row.ROOM c.args.self.now.text.now c.loop-i.i c.loop-i.n c.digit_of-d.result (omega arith) d (omega arith)) ∙ c.loop-i.invariant.2)

pub returns-clause-value : goal.returns-clause-value
returns-clause-value g c =
    sym (spelled-end g.row.BASE g.row.ROOM c.args.self.now.text.now c.loop-i.i c.loop-i.n (omega arith)) ∙ c.loop-i.invariant.1

pub returns-clause-next : goal.returns-clause-next
returns-clause-next g c =
    let e : _ = sym (passed-end g.row.BASE g.row.ROOM c.args.self.now.text.now c.loop-i.i c.loop-i.n (omega arith)) ∙ c.loop-i.invariant.2 in
    c.loop-i.invariant.0 ∙ ap (λ (n : ℕ). record c.args.self.now { at = n }) e
