-- `sheet_list::asks::fill_tallies` meets its contract.
use lib.ListN.{length, take}
use mathlib.Core.Path.{◌≡◌}
use Prim.Native.Nat.{◌*◌, ◌≤◌}
use Rattle.list_laws.specs.Lists.{rows}
use Rattle.sheet_tally.specs.Tallies.{sixteen_of}
use Rattle.sheet_list.proofs.asks.fill_tallies.Given as goal

abbrev pub invariant-loop-i : goal.invariant-loop-i
invariant-loop-i l =
    (l.i ≤ l.calls) × (length l.tallies ≡ length l.initial.tallies) × (take (l.i * 16) l.tallies ≡ rows l.i (λ k. sixteen_of l.tally.runs))
