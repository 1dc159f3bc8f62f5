-- `marks::kernel::marks_ok` meets its contract.
use mathlib.Core.Path.{◌∙◌}
use native.Mathlib.Omega.{arith}
use Rattle.list_laws.proofs.BelowLaws.{below_end, below_next, below_none}
use Rattle.marks.specs.Marks.{are_marks, is_averaged_at, is_mark, is_mark_beside}
use Rattle.marks.proofs.kernel.marks_ok.Goals as goal

pub loop-q-init : goal.loop-q-init
loop-q-init c = below_none _

pub loop-q-preserved : goal.loop-q-preserved
unfolding is_mark is_mark_beside is_averaged_at
loop-q-preserved c =
    below_next c.loop-q.q (is_mark c.args.pairs c.args.marks.now) c.loop-q.invariant (c.mark_ok-ok.ensures ∙ rw (c.mark_at-in-loop-q.ensures, c.mark_at.ensures))

pub returns : goal.returns
unfolding are_marks
returns c = below_end _ c.loop-q.invariant (omega arith)
