-- `test_load::kernel::fill` meets its contract: at each turn the entries so far are filled, and `last` is as many steps on.
use lib.Ieee.{Float}
use mathlib.Core.Path.{◌≡◌}
use Prim.Native.Nat.{ℕ, ◌+◌}
use Rattle.list_laws.specs.Lists.{fronted}
use Rattle.test_load.specs.Load.{after, frequency_at}
use Rattle.test_load.proofs.kernel.fill.Given as goal

-- the record that is made
abbrev pub made : ℕ → ℕ → Float
made x k = frequency_at x (0 + k)

abbrev pub invariant-loop-entry : goal.invariant-loop-entry
invariant-loop-entry l =
    (l.entry-items ≡ fronted l.entry-index (made l.x) l.initial.entry-items) × (l.last ≡ after l.x l.entry-index)
