-- `sheet_fill::prepared::PreparedStudy::new` meets its contract.
use Rattle.triplet_corners.proofs.CornerLaws.{second-lent}
use Rattle.sheet_fill.proofs.prepared.PreparedStudy.new.Goals as goal

pub invariant_of-result : goal.invariant_of-result
invariant_of-result c = record { copy = second-lent c.args.tested.sizes.tp c.args.tested.study.relative_grid_address.now c.args.copy.now c.requires }
