-- `marks::kernel::marks_ok` meets its contract.
use mathlib.Core.Path.{◌≡◌}
use Rattle.list_laws.specs.Lists.{all_below}
use Rattle.marks.specs.Marks.{is_mark}
use Rattle.marks.proofs.kernel.marks_ok.Given as goal

abbrev pub invariant-loop-q : goal.invariant-loop-q
invariant-loop-q l = l.ok ≡ all_below l.q (is_mark l.pairs l.marks)
