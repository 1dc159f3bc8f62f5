-- `triplet_iw::kernel::fill_tested` meets its contract.
use Rattle.triplet_piece.specs.Weights.{AreComputed}
use Rattle.triplet_study.specs.Lent.{study_of}
use lib.Dec.{ltb}
use Prim.Native.Nat.{◌/◌}
use Rattle.triplet_iw.proofs.kernel.fill_tested.Given as goal

abbrev pub invariant-loop-t : goal.invariant-loop-t
invariant-loop-t l =
    AreComputed (study_of l.tested.study) (λ n. ltb (n / l.tested.sizes.pairs) l.t) l.initial.weights l.initial.flags l.weights l.flags
