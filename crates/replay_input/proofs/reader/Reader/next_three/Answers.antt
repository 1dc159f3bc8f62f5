-- `replay_input::reader::Reader::next_three` meets its contract: three whole numbers, each where the one before ends.
use borrow.Author.Rules.{rules}
use mathlib.Core.Path.{◌∙◌}
use mir.Facts.{to_z-of_z}
use mir.Syntax.{w64}
use Rattle.replay_input.proofs.ReaderLaws.{three-wholes}
use Rattle.replay_input.proofs.reader.Reader.next_three.Goals as goal

pub returns-clause-value : goal.returns-clause-value
returns-clause-value c =
    (three-wholes c.args.self.now (to_z-of_z {w = w64} {z = c.next_whole-x.result} (search rules) ∙ c.next_whole-x.ensures.value) c.next_whole-x.ensures.next (to_z-of_z {w = w64} {z = c.next_whole-y.result} (search rules) ∙ c.next_whole-y.ensures.value) c.next_whole-y.ensures.next (to_z-of_z {w = w64} {z = c.next_whole-z.result} (search rules) ∙ c.next_whole-z.ensures.value) c.next_whole-z.ensures.next).0

pub returns-clause-next : goal.returns-clause-next
returns-clause-next c =
    (three-wholes c.args.self.now c.next_whole-x.ensures.value c.next_whole-x.ensures.next c.next_whole-y.ensures.value c.next_whole-y.ensures.next c.next_whole-z.ensures.value c.next_whole-z.ensures.next).1
