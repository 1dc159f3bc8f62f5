-- `replay_input::reader::Reader::agrees_with` meets its contract: at each turn `agrees` speaks of the first fields.
use mathlib.Core.Path.{◌≡◌}
use lib.ListN.{take}
use Rattle.list_laws.specs.Lists.{tabulate}
use Rattle.replay_compare.specs.Sameness.{entries_agree}
use Rattle.replay_input.specs.Fields.{value_from, field_place}
use Rattle.replay_input.proofs.reader.Reader.agrees_with.Given as goal

abbrev pub invariant-loop-x : goal.invariant-loop-x
invariant-loop-x g l =
    (l.agrees ≡ entries_agree g.T.Compared.agrees (take l.x-index l.list) (tabulate l.x-index (value_from g.T.Field.value_at g.T.Field.after l.initial.self.text.now l.initial.self.at)))
    × (l.self ≡ record l.initial.self { at = field_place (g.T.Field.after l.initial.self.text.now) l.initial.self.at l.x-index })
