-- `replay_input::reader::Reader::fill_list` meets its contract.
use mathlib.Core.Path.{refl}
use Rattle.replay_input.proofs.FieldLaws.{list-read}
use Rattle.replay_input.proofs.reader.Reader.fill_list.Goals as goal

pub returns-clause-list_read : goal.returns-clause-list_read
returns-clause-list_read g c =
    let f : _ = rw c.next_count.ensures.next at c.fill.ensures.filled in
    let h : _ = rw c.next_count.ensures.next at c.fill.ensures.next in
    rw h (list-read g.T.Field.value_at g.T.Field.after c.args.self.now.text.now c.args.self.now.at c.args.out.now c.next_count.ensures.value c.length_within-count.ensures.value refl f)
