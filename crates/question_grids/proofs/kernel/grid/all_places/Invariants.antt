-- `question_grids::kernel::grid::all_places` meets its contract.
use mathlib.Core.Path.{◌≡◌}
use Rattle.list_laws.specs.Lists.{all_below, at}
use Rattle.question_grids.specs.Grids.{is_place}
use Rattle.question_grids.proofs.kernel.grid.all_places.Given as goal

abbrev pub invariant-loop-v : goal.invariant-loop-v
invariant-loop-v l = l.ok ≡ all_below l.v-index (λ k. is_place l.p l.missing (at l.values k))
