-- `marks::kernel::average_marks` meets its contract.
use mathlib.Core.Path.{◌≡◌}
use Rattle.marks.proofs.MarkLaws.{some_averaged}
use Rattle.marks.proofs.kernel.average_marks.Given as goal

abbrev pub invariant-loop-k : goal.invariant-loop-k
invariant-loop-k l = l.marks ≡ some_averaged l.pairs l.t l.k l.initial.marks
