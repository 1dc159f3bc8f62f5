-- `triplet_piece::kernel::put_weights` meets its contract.
use Prim.Native.Nat.{◌-◌, ◌≤◌}
use lib.ListN.{length}
use mathlib.Core.Path.{◌≡◌}
use Rattle.triplet_piece.proofs.LayoutLaws.{some_channels}
use Rattle.triplet_piece.proofs.kernel.put_weights.Given as goal

abbrev pub invariant-loop-c : goal.invariant-loop-c
invariant-loop-c l =
    (l.c ≤ l.channels) × ((length l.weights ≡ length l.initial.weights) × (l.weights ≡ some_channels l.cells l.cell l.o l.c l.initial.weights))

abbrev pub decreases-loop-c : goal.decreases-loop-c
decreases-loop-c l =
    l.channels - l.c
