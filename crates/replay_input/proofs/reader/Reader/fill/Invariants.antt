-- `replay_input::reader::Reader::fill` meets its contract: at each turn the front of the buffer holds the first numbers.
use mathlib.Core.Path.{◌≡◌}
use lib.ListN.{length}
use Rattle.list_laws.specs.Lists.{fronted}
use Rattle.replay_input.specs.Fields.{value_from, field_place}
use Rattle.replay_input.proofs.reader.Reader.fill.Given as goal

abbrev pub invariant-loop-x : goal.invariant-loop-x
invariant-loop-x g l =
    (length l.out ≡ length l.initial.out)
    × (l.out ≡ fronted l.x-index (value_from g.T.Field.value_at g.T.Field.after l.initial.self.text.now l.initial.self.at) l.initial.out)
    × (l.self ≡ record l.initial.self { at = field_place (g.T.Field.after l.initial.self.text.now) l.initial.self.at l.x-index })
