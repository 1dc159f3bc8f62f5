-- `sheet_fill::kernel::carry::fill_open` meets its contract.
use mathlib.Core.Path.{◌≡◌}
use Rattle.marks.specs.Marks.{is_open_at, carried_marks}
use Rattle.sheet_fill.specs.Kept.{study_in}
use Rattle.triplet_piece.specs.Weights.{AreComputed}
use Rattle.sheet_fill.proofs.kernel.carry.fill_open.Given as goal

abbrev pub invariant-loop-q : goal.invariant-loop-q
invariant-loop-q l =
    (l.marks ≡ carried_marks l.q l.initial.marks)
    × AreComputed (study_in l.initial.work.prepared) (is_open_at l.q l.initial.marks) l.initial.weights l.initial.flags l.weights l.flags
    × (l.work.prepared ≡ l.initial.work.prepared)
