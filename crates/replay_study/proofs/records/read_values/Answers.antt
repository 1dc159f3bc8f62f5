-- `replay_study::records::read_values` meets its contract: each list stands where the one before ends.
use Rattle.replay_study.proofs.RecordLaws.{values-are}
use Rattle.replay_study.proofs.records.read_values.Goals as goal

pub returns-clause-values_read : goal.returns-clause-values_read
returns-clause-values_read c =
    values-are c.args.reader.now c.fill_list-frequencies1.new.self c.fill_list-frequencies2.new.self c.fill_list-points.new.self _ _ _ _ _ _ _ _ _ c.fill_list-frequencies1.ensures.list_read c.fill_list-frequencies1.ensures.text c.fill_list-frequencies2.ensures.list_read c.fill_list-frequencies2.ensures.text c.fill_list-points.ensures.list_read
