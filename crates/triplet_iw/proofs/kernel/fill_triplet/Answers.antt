-- `triplet_iw::kernel::fill_triplet` meets its contract.
use native.Mathlib.Omega.{arith}
use Rattle.triplet_iw.proofs.TripletLaws.{is-held, piece_of, piece-in, pieces_more, pieces_none}
use Rattle.triplet_piece.proofs.WeightLaws.{computed-lengths}
use Rattle.triplet_study.proofs.TestedLaws.{tested-ready}
use Rattle.triplet_study.specs.Lent.{study_of}
use Rattle.triplet_iw.proofs.kernel.fill_triplet.Goals as goal

pub loop-k-init : goal.loop-k-init
loop-k-init c =
    pieces_none (study_of c.args.tested.now.study) c.args.tested.now.sizes.pairs c.args.t c.args.weights.now c.args.flags.now

pub fill_piece-requires-clause-fits : goal.fill_piece-requires-clause-fits
fill_piece-requires-clause-fits c =
    let e : _ = computed-lengths c.loop-k.invariant in
    rw (c.counted-counted.ensures.sizes, c.counted-counted.ensures.values.1.1, e.0, e.1) (tested-ready c.args.tested.now _ _ c.requires.room).fits

pub fill_piece-requires-clause-held : goal.fill_piece-requires-clause-held
fill_piece-requires-clause-held c =
    rw (c.counted-counted.ensures.sizes, c.counted-counted.ensures.values.0, c.counted-counted.ensures.values.1.0)
    (is-held c.args.tested.now _ (piece_of c.args.tested.now.sizes c.args.t c.loop-k.k) c.fill_corners.ensures (piece-in c.args.tested.now c.args.t c.loop-k.k c.requires.t_in_bounds (omega arith)))

pub loop-k-preserved : goal.loop-k-preserved
loop-k-preserved c =
    pieces_more c.args.tested.now c.args.t c.loop-k.k c.requires.t_in_bounds (omega arith) _ c.fill_corners.ensures c.loop-k.invariant
    (rw (c.counted-counted.ensures.sizes, c.counted-counted.ensures.values.0, c.counted-counted.ensures.values.1.0, c.counted-counted.ensures.values.1.1) at c.fill_piece.ensures)
