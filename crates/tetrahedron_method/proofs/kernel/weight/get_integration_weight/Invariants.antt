-- At each turn the sum is that of the rows passed.
use mathlib.Core.Path.{◌≡◌}
use Rattle.tetrahedron_method.specs.Weight.{sum_of}
use Rattle.tetrahedron_method.proofs.kernel.weight.get_integration_weight.Given as goal

abbrev pub invariant-loop-row : goal.invariant-loop-row
invariant-loop-row l = l.sum ≡ sum_of l.function l.omega l.omegas l.row-index
