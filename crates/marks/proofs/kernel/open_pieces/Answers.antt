-- `marks::kernel::open_pieces` meets its contract.
use mathlib.Core.Path.{◌∙◌, ◌≡◌, refl}
use native.Mathlib.Omega.{arith}
use Rattle.list_laws.specs.Lists.{count_below}
use Rattle.list_laws.proofs.CountedLaws.{counted_next}
use Rattle.marks.specs.Marks.{is_open_mark, open_pieces}
use Rattle.marks.proofs.kernel.open_pieces.Goals as goal

pub loop-q-init : goal.loop-q-init
unfolding count_below
loop-q-init c = refl

pub overflow_add-count : goal.overflow_add-count
unfolding is_open_mark
overflow_add-count c =
    omega (arith, (counted_next _ _ (is_open_mark c.args.marks.now) _ c.loop-q.invariant _ c.from-count.ensures (rw c.mark_at.ensures)).0)

pub loop-q-preserved : goal.loop-q-preserved
unfolding is_open_mark
loop-q-preserved c =
    (counted_next _ _ (is_open_mark c.args.marks.now) _ c.loop-q.invariant _ c.from-count.ensures (rw c.mark_at.ensures)).1

pub returns : goal.returns
unfolding open_pieces
returns c =
    let e : c.loop-q.q ≡ c.args.pieces = omega arith in c.loop-q.invariant ∙ rw e
