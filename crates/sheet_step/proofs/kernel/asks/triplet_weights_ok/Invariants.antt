-- `sheet_step::kernel::asks::triplet_weights_ok` meets its contract.
use Prim.Native.Nat.{◌*◌, ◌+◌}
use mathlib.Core.Path.{◌≡◌}
use Rattle.list_laws.specs.Lists.{all_below, part}
use Rattle.question_values.specs.Averages.{are_weights}
use Rattle.sheet_step.proofs.kernel.asks.triplet_weights_ok.Given as goal

abbrev pub invariant-loop-c : goal.invariant-loop-c
invariant-loop-c l = l.ok ≡ all_below l.c (λ k. are_weights (part (k * l.cells + l.base) l.size l.weights))
