-- `triplet_piece::kernel::put_weights` meets its contract.
use Prim.Native.Nat.{zero-le}
use borrow.Author.Rules.{rules}
use lib.ListN.{length-set}
use mathlib.Core.Path.{◌∙◌, ◌≡◌, refl}
use native.Mathlib.Omega.{arith}
use Rattle.triplet_piece.proofs.LayoutLaws.{channels-all, channels-more, channels-none}
use Rattle.triplet_piece.proofs.kernel.put_weights.Goals as goal

pub loop-c-init : goal.loop-c-init
loop-c-init c =
    (zero-le, (refl, channels-none c.args.cells c.args.cell c.args.o c.args.weights.now c.requires.0))

pub loop-c-preserved : goal.loop-c-preserved
loop-c-preserved c =
    (search rules, (simp length-set c.loop-c.invariant.1.0, rw (c.channel_of.ensures, c.loop-c.invariant.1.1) (channels-more c.args.cells c.args.cell c.args.o c.args.weights.now c.requires.0 c.loop-c.c)))

pub returns : goal.returns
returns c =
    let e : c.loop-c.c ≡ c.args.channels = omega arith in
    c.loop-c.invariant.1.1 ∙ channels-all c.args.cells c.args.cell c.args.o c.args.weights.now c.requires.0 c.loop-c.c (rw e c.requires.1)
