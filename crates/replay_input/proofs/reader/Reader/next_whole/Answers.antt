-- `replay_input::reader::Reader::next_whole` meets its contract, with a minus sign and without.
use borrow.Author.Rules.{rules}
use mathlib.Core.Bool.{true, false}
use mathlib.Core.Path.{◌≡◌, ◌∙◌, ap, sym}
use mir.Facts.{to_z-of_z}
use mir.Syntax.{w64}
use lib.Dec.{eqb}
use lib.ListN.{get_or}
use Rattle.replay_input.specs.Fields.{negated, plain, whole_at, after_whole}
use Rattle.replay_input.proofs.reader.Reader.next_whole.Goals as goal

pub returns-then-is_minus-clause-value : goal.returns-then-is_minus-clause-value
unfolding whole_at
returns-then-is_minus-clause-value c =
    let b : eqb (get_or c.args.self.now.text.now c.args.self.now.at 0) 45 ≡ true = sym c.is_minus.ensures ∙ c.if-is_minus.true in
    rw b (to_z-of_z {w = w64} {z = c.negative.result} (search rules) ∙ c.negative.ensures ∙ ap negated c.next_count.ensures.value)

pub returns-then-is_minus-clause-next : goal.returns-then-is_minus-clause-next
unfolding after_whole
returns-then-is_minus-clause-next c =
    let b : eqb (get_or c.args.self.now.text.now c.args.self.now.at 0) 45 ≡ true = sym c.is_minus.ensures ∙ c.if-is_minus.true in
    rw b c.next_count.ensures.next

pub returns-clause-value : goal.returns-clause-value
unfolding whole_at
returns-clause-value c =
    let b : eqb (get_or c.args.self.now.text.now c.args.self.now.at 0) 45 ≡ false = sym c.is_minus.ensures ∙ c.if-is_minus.false in
    rw b (to_z-of_z {w = w64} {z = c.positive.result} (search rules) ∙ c.positive.ensures ∙ ap plain c.next_count-2.ensures.value)

pub returns-clause-next : goal.returns-clause-next
unfolding after_whole
returns-clause-next c =
    let b : eqb (get_or c.args.self.now.text.now c.args.self.now.at 0) 45 ≡ false = sym c.is_minus.ensures ∙ c.if-is_minus.false in
    rw b c.next_count-2.ensures.next
