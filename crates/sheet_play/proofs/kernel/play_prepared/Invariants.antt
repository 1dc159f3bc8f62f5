-- `sheet_play::kernel::play_prepared` meets its contract.
use lib.ListN.{length, take}
use mathlib.Core.Path.{◌≡◌}
use Prim.Native.Nat.{◌≤◌, ◌*◌}
use Rattle.list_laws.specs.Lists.{fronted, rows}
use Rattle.sheet_fill.specs.Kept.{study_in}
use Rattle.sheet_play.proofs.OutcomeLaws.{after, number_after, tally_after}
use Rattle.sheet_calls.specs.Calls.{call_at}
use Rattle.sheet_step.specs.Lent.{sheet_of, SameBuffers}
use Rattle.sheet_play.proofs.kernel.play_prepared.Given as goal

abbrev pub invariant-loop-i : goal.invariant-loop-i
invariant-loop-i l =
    (l.i ≤ length l.initial.answers)
    × SameBuffers l.initial.sheet l.sheet
    × (length l.answers ≡ length l.initial.answers) × (length l.tallies ≡ length l.initial.tallies)
    × (sheet_of l.sheet l.tally.runs ≡ after (study_in l.prepared) (sheet_of l.initial.sheet l.initial.tally.runs) (call_at l.calls.list.now l.calls.ids.now) l.i)
    × (l.answers ≡ fronted l.i (number_after (study_in l.prepared) (sheet_of l.initial.sheet l.initial.tally.runs) (call_at l.calls.list.now l.calls.ids.now)) l.initial.answers)
    × (take (l.i * 16) l.tallies ≡ rows l.i (tally_after (study_in l.prepared) (sheet_of l.initial.sheet l.initial.tally.runs) (call_at l.calls.list.now l.calls.ids.now)))
    × (l.work.prepared ≡ l.prepared)
