-- `listing_line::kernel::pass_weights` meets its contract.
use mathlib.Core.List.{[]}
use mathlib.Core.Path.{◌≡◌}
use native.Mathlib.Omega.{arith}
use Prim.Native.Nat.{◌+◌}
use Rattle.list_laws.specs.Lists.{rows}
use Rattle.reading.proofs.ReaderLaws.{passes_none, pieces-lost}
use Rattle.listing_line.specs.Lines.{weights_here}
use Rattle.listing_line.proofs.LineLaws.{weight_there, weights-next}
use Rattle.listing_line.proofs.kernel.pass_weights.Goals as goal

pub loop-c-init : goal.loop-c-init
unfolding rows
loop-c-init c = passes_none c.args.reader.now

pub returns-in_err-pass_weight : goal.returns-in_err-pass_weight
unfolding weights_here
returns-in_err-pass_weight c =
    rw c.from_residual.ensures
    (pieces-lost [] (weight_there c.args.channels c.args.reader.now.text.now c.args.reader.now.at) (c.loop-c.c + 1) c.args.channels (omega arith)
    (weights-next c.args.channels c.loop-c.c c.weight_end.result c.loop-c.invariant c.weight_end.ensures (rw c.in_err-pass_weight.was at c.pass_weight.ensures)))

pub loop-c-preserved : goal.loop-c-preserved
loop-c-preserved c =
    weights-next c.args.channels c.loop-c.c c.weight_end.result c.loop-c.invariant c.weight_end.ensures (rw c.in_ok-pass_weight.was at c.pass_weight.ensures)

pub returns : goal.returns
unfolding weights_here
returns c = let e : c.loop-c.c ≡ c.args.channels = omega arith in
    rw e at c.loop-c.invariant
