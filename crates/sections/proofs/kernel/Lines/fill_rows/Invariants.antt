-- `sections::kernel::Lines::fill_rows` meets its contract: the values stored, and what the lines that are left hold, are the section's.
use Prim.Native.Nat.{◌-◌, ◌≤◌}
use mathlib.Core.Path.{◌≡◌}
use lib.ListN.{length, take}
use Rattle.std.specs.Prelude.{Some}
use Rattle.sections.specs.Left.{left}
use Rattle.sections.specs.Lines.{joined, rows}
use Rattle.sections.proofs.kernel.Lines.fill_rows.Given as goal

abbrev pub invariant-loop-fields : goal.invariant-loop-fields
invariant-loop-fields g l =
    (l.count ≤ l.self.next)
    × (l.count ≤ length l.initial.out)
    × (l.self.text ≡ l.initial.self.text)
    × (joined (Some (take l.count l.out)) (rows g.T.Field.spelled l.tag l.n (left l.self)) ≡ rows g.T.Field.spelled l.tag l.n (left l.initial.self))

abbrev pub decreases-loop-fields : goal.decreases-loop-fields
decreases-loop-fields g l = length l.self.text.now - l.self.next
