-- `marks::kernel::open_pieces` meets its contract.
use mathlib.Core.Path.{◌≡◌}
use Rattle.list_laws.specs.Lists.{count_below}
use Rattle.marks.specs.Marks.{is_open_mark}
use Rattle.marks.proofs.kernel.open_pieces.Given as goal

abbrev pub invariant-loop-q : goal.invariant-loop-q
invariant-loop-q l = l.count ≡ count_below l.q (is_open_mark l.marks)
