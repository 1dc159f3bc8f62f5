-- `question_grids::kernel::grid::all_small` meets its contract.
use mathlib.Core.Path.{◌≡◌}
use Rattle.list_laws.specs.Lists.{all_below, at}
use Rattle.list_laws.specs.Signed.{within}
use Rattle.question_grids.proofs.kernel.grid.all_small.Given as goal

abbrev pub invariant-loop-x : goal.invariant-loop-x
invariant-loop-x l = l.ok ≡ all_below l.x-index (λ k. within 4096 (at l.xs k))
