-- `triplet_values::kernel::box_of` meets its contract.
use mathlib.Core.Path.{◌≡◌}
use Rattle.triplet_values.specs.Values.{greatest_of, least_of}
use Rattle.triplet_values.proofs.kernel.box_of.Given as goal

abbrev pub invariant-loop-i : goal.invariant-loop-i
invariant-loop-i l =
    (l.fmin ≡ least_of l.a l.i) × (l.fmax ≡ greatest_of l.a l.i)
