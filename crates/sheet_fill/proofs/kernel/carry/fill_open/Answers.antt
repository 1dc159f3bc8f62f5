-- `sheet_fill::kernel::carry::fill_open` meets its contract.
use borrow.Author.Tests.{eq-eqb, ne_eqb}
use mathlib.Core.Bool.{false, true}
use mathlib.Core.Path.{◌∙◌, ◌≡◌, refl, sym}
use Prim.Native.Nat.{◌+◌}
use Rattle.marks.specs.Marks.{is_open_mark, is_open_at}
use Rattle.sheet_fill.proofs.OpenLaws.{open_none, open_more, open-one, shut_one, closed_none, closed-one, closed-more, kept-one}
use Rattle.sheet_fill.specs.Piece.{is_open_piece}
use Rattle.triplet_piece.proofs.WeightLaws.{computed-alike, computed-join, computed-none}
use Rattle.triplet_piece.specs.Weights.{AreComputed}
use Rattle.sheet_fill.specs.Kept.{study_in}
use Rattle.sheet_fill.proofs.kernel.carry.fill_open.Goals.{Start}
use Rattle.sheet_fill.proofs.kernel.carry.fill_open.Goals as goal

pub loop-q-init : goal.loop-q-init
loop-q-init c =
    (closed_none c.args.marks.now, computed-none (study_in c.args.work.now.prepared) _ (open_none c.args.marks.now) c.args.weights.now c.args.flags.now, refl)

pub loop-q-preserved-then-mark_at-ne-OPEN : goal.loop-q-preserved-then-mark_at-ne-OPEN
unfolding is_open_mark
loop-q-preserved-then-mark_at-ne-OPEN c =
    let o : is_open_mark c.loop-q.marks c.loop-q.q ≡ false = ne_eqb _ 0 (λ e. c.if-mark_at-ne-OPEN.true (c.mark_at.ensures ∙ e)) in (
      kept-one c.loop-q.marks c.loop-q.q o ∙ closed-more c.args.marks.now c.loop-q.marks c.loop-q.q c.loop-q.invariant.0,
      computed-join (study_in c.args.work.now.prepared) (is_open_at c.loop-q.q c.args.marks.now) (is_open_piece c.loop-q.marks c.loop-q.q) (is_open_at (c.loop-q.q + 1) c.args.marks.now) (open_more c.args.marks.now c.loop-q.marks c.loop-q.q c.loop-q.invariant.0) c.loop-q.invariant.1 (computed-none (study_in c.args.work.now.prepared) _ (shut_one c.loop-q.marks c.loop-q.q o) c.loop-q.weights c.loop-q.flags),
      c.loop-q.invariant.2,
    )

pub loop-q-preserved : goal.loop-q-preserved
unfolding is_open_mark
loop-q-preserved c =
    let o : is_open_mark c.loop-q.marks c.loop-q.q ≡ true = eq-eqb _ 0 (sym c.mark_at.ensures ∙ c.if-mark_at-ne-OPEN.false) in
    let piece : AreComputed (study_in c.loop-q.work.prepared) (is_open_piece c.loop-q.marks c.loop-q.q) c.loop-q.weights c.loop-q.flags c.fill_named.new.weights c.fill_named.new.flags =
    computed-alike (study_in c.loop-q.work.prepared) _ _ (open-one c.loop-q.marks c.loop-q.q o _ c.piece_at-piece.ensures.number) c.fill_named.ensures.computes in (
      c.set_mark.ensures ∙ closed-one c.loop-q.marks c.loop-q.q o ∙ closed-more c.args.marks.now c.loop-q.marks c.loop-q.q c.loop-q.invariant.0,
      computed-join (study_in c.args.work.now.prepared) (is_open_at c.loop-q.q c.args.marks.now) (is_open_piece c.loop-q.marks c.loop-q.q) (is_open_at (c.loop-q.q + 1) c.args.marks.now) (open_more c.args.marks.now c.loop-q.marks c.loop-q.q c.loop-q.invariant.0) c.loop-q.invariant.1 (rw c.loop-q.invariant.2 at piece),
      c.fill_named.ensures.study ∙ c.loop-q.invariant.2,
    )
