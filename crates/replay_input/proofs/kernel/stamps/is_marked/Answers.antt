-- `replay_input::kernel::stamps::is_marked` meets its contract: at each turn `ok` speaks of the first i places.
use lib.Dec.{eqb}
use lib.Ieee.{Float, binary64, nan, to_bits}
use lib.ListN.{get_or}
use mathlib.Core.Path.{◌∙◌, ap}
use native.Mathlib.Omega.{arith}
use Rattle.list_laws.proofs.BelowLaws.{below_end, below_next, below_none}
use Rattle.replay_input.specs.Stamps.{is_marked}
use Rattle.replay_input.proofs.kernel.stamps.is_marked.Goals as goal

pub loop-i-init : goal.loop-i-init
loop-i-init c =
    below_none _

pub loop-i-preserved : goal.loop-i-preserved
loop-i-preserved c =
    below_next c.loop-i.i _ c.loop-i.invariant (c.agrees-ok.ensures ∙ ap (λ (x : Float). eqb (to_bits binary64 (get_or c.args.out.now c.loop-i.i nan)) (to_bits binary64 x)) c.mark_at.ensures)

pub returns : goal.returns
unfolding is_marked
returns c =
    below_end _ c.loop-i.invariant (omega arith)
