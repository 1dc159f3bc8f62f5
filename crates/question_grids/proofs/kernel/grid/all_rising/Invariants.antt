-- `question_grids::kernel::grid::all_rising` meets its contract.
use mathlib.Core.Path.{◌≡◌}
use Rattle.list_laws.specs.Lists.{all_below, at}
use Prim.Native.Nat.{◌+◌}
use lib.Signed.{lt_z}
use Rattle.question_grids.proofs.kernel.grid.all_rising.Given as goal

abbrev pub invariant-loop-k : goal.invariant-loop-k
invariant-loop-k l = l.ok ≡ all_below l.k (λ k. lt_z (at l.xs k) (at l.xs (k + 1)))
