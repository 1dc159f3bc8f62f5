-- `answer::floats::store_floats` meets its contract.
use lib.Ieee.{binary64, of_bits}
use lib.ListN.{get_or, take}
use mathlib.Core.Path.{◌≡◌}
use Rattle.list_laws.specs.Lists.{tabulate}
use Rattle.answer.proofs.floats.store_floats.Given as goal

abbrev pub invariant-loop-k : goal.invariant-loop-k
invariant-loop-k l = take l.k l.out ≡ tabulate l.k (λ k. of_bits binary64 (get_or l.patterns k 0))
