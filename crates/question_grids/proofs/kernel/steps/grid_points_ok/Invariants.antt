-- `question_grids::kernel::steps::grid_points_ok` meets its contract.
use mathlib.Core.Path.{◌≡◌}
use Rattle.list_laws.specs.Lists.{all_below, at}
use Rattle.list_laws.specs.Signed.{is_below}
use Rattle.question_grids.proofs.kernel.steps.grid_points_ok.Given as goal

abbrev pub invariant-loop-g : goal.invariant-loop-g
invariant-loop-g l = l.ok ≡ all_below l.g-index (λ k. is_below (at l.grid_points k) l.p)
