-- `replay_input::reader::Reader::next_digits` meets its contract: what is read from here on gives what it gave at the start.
use Prim.Native.Nat.{◌+◌}
use mathlib.Core.Path.{◌≡◌}
use lib.ListN.{drop}
use Rattle.replay_input.specs.Fields.{spelled, passed}
use Rattle.replay_input.proofs.reader.Reader.next_digits.Given as goal

abbrev pub invariant-loop-i : goal.invariant-loop-i
invariant-loop-i g l =
    (l.self ≡ record l.initial.self { at = l.i })
    × (spelled g.row.BASE g.row.ROOM (drop l.i l.initial.self.text.now) l.n ≡ spelled g.row.BASE g.row.ROOM (drop l.initial.self.at l.initial.self.text.now) 0)
    × (l.i + passed g.row.BASE (drop l.i l.initial.self.text.now) ≡ l.initial.self.at + passed g.row.BASE (drop l.initial.self.at l.initial.self.text.now))
