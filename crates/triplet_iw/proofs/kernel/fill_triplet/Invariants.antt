-- `triplet_iw::kernel::fill_triplet` meets its contract.
use Rattle.triplet_iw.proofs.TripletLaws.{in_triplet}
use Rattle.triplet_piece.specs.Weights.{AreComputed}
use Rattle.triplet_study.specs.Lent.{study_of}
use Rattle.triplet_iw.proofs.kernel.fill_triplet.Given as goal

abbrev pub invariant-loop-k : goal.invariant-loop-k
invariant-loop-k l =
    AreComputed (study_of l.tested.study) (in_triplet l.tested.sizes.pairs l.t l.k) l.initial.weights l.initial.flags l.weights l.flags
