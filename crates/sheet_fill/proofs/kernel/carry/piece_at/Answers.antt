-- `sheet_fill::kernel::carry::piece_at` meets its contract.
use Rattle.sheet_fill.proofs.PieceLaws.{piece-at}
use Rattle.triplet_study.proofs.TestedLaws.{tested-counted}
use Rattle.sheet_fill.proofs.kernel.carry.piece_at.Goals as goal

pub nonzero_div-result-2 : goal.nonzero_div-result-2
nonzero_div-result-2 c = (tested-counted c.args.tested.now).bands2-some

pub nonzero_rem-result : goal.nonzero_rem-result
nonzero_rem-result c = (tested-counted c.args.tested.now).bands2-some

pub returns-clause-on_sheet : goal.returns-clause-on_sheet
returns-clause-on_sheet c = piece-at (tested-counted c.args.tested.now) c.args.q c.requires
