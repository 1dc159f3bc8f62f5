-- `triplet_piece::kernel::fill_points` meets its contract.
use Prim.Native.Nat.{◌*◌, ◌+◌}
use mathlib.Core.Path.{◌≡◌}
use Rattle.triplet_piece.proofs.LayoutLaws.{some_flags, some_weights}
use Rattle.triplet_piece.specs.Weights.{outputs_of_sorted}
use Rattle.triplet_piece.proofs.kernel.fill_points.Given as goal

abbrev pub invariant-loop-x : goal.invariant-loop-x
invariant-loop-x l =
    (l.weights ≡ some_weights l.study.sizes (l.t * l.study.sizes.pairs + l.pair) (outputs_of_sorted l.study.sizes l.study.frequency_points.now l.channels) l.x l.initial.weights) × (l.flags ≡ some_flags l.study.sizes (l.t * l.study.sizes.pairs + l.pair) (outputs_of_sorted l.study.sizes l.study.frequency_points.now l.channels) l.x l.initial.flags)
