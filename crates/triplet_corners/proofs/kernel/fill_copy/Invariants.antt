-- `triplet_corners::kernel::fill_copy` meets its contract.
use lib.ListN.{take}
use mathlib.Core.Path.{◌≡◌}
use Rattle.list_laws.specs.Lists.{at, tabulate}
use Rattle.triplet_corners.specs.Corners.{step_of}
use Rattle.triplet_corners.proofs.kernel.fill_copy.Given as goal

abbrev pub invariant-loop-k : goal.invariant-loop-k
invariant-loop-k l =
    take l.k l.out ≡ tabulate l.k (λ k. step_of l.negated (at l.fn.table.numbers.now k))
