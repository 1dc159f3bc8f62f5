-- `replay_study::records::read_grid` meets its contract: each list stands where the one before ends.
use borrow.Author.Rules.{rules}
use mathlib.Core.Path.{◌∙◌}
use mir.Facts.{to_z-of_z}
use mir.Syntax.{w64}
use Rattle.replay_study.proofs.RecordLaws.{grid-is}
use Rattle.replay_study.proofs.records.read_grid.Goals as goal

pub returns-clause-grid_read : goal.returns-clause-grid_read
returns-clause-grid_read c =
    grid-is c.args.reader.now c.next_whole-bz_grid_type.new.self c.next_three-mesh.new.self c.fill_list-addresses.new.self c.fill_list-map.new.self _ _ _ _ _ _ _ _ (to_z-of_z {w = w64} {z = c.next_whole-bz_grid_type.result} (search rules) ∙ c.next_whole-bz_grid_type.ensures.value) c.next_whole-bz_grid_type.ensures.next c.next_three-mesh.ensures.value c.next_three-mesh.ensures.next c.fill_list-addresses.ensures.list_read c.fill_list-addresses.ensures.text c.fill_list-map.ensures.list_read
