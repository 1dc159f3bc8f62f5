-- `sheet_fill::kernel::run::fill_named` meets its contract.
use Rattle.triplet_iw.proofs.TripletLaws.{corners-computed, is-held}
use Rattle.sheet_fill.proofs.kernel.run.fill_named.Goals as goal

pub fill_piece-requires-clause-held : goal.fill_piece-requires-clause-held
fill_piece-requires-clause-held c =
    rw (c.counted-counted.ensures.sizes, c.counted-counted.ensures.values.0, c.counted-counted.ensures.values.1.0, c.keep_corners.ensures.study)
    (is-held c.args.work.now.prepared.tested _ c.args.piece c.keep_corners.ensures.corners c.requires.on_sheet)

pub returns-clause-computes : goal.returns-clause-computes
returns-clause-computes c = corners-computed c.args.work.now.prepared.tested _ c.args.piece c.keep_corners.ensures.corners c.requires.on_sheet
    (rw (c.counted-counted.ensures.sizes, c.counted-counted.ensures.values.0, c.counted-counted.ensures.values.1.0, c.counted-counted.ensures.values.1.1, c.keep_corners.ensures.study) at c.fill_piece.ensures)
