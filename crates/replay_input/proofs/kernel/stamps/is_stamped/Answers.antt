-- `replay_input::kernel::stamps::is_stamped` meets its contract: at each turn `ok` speaks of the first i places.
use borrow.Author.Rules.{rules}
use mathlib.Core.Path.{◌∙◌, ap}
use mir.Facts.{to_z-of_z}
use mir.Syntax.{w64}
use native.Mathlib.Omega.{arith}
use Rattle.list_laws.proofs.BelowLaws.{below_end, below_next, below_none}
use Rattle.list_laws.specs.Lists.{at}
use Rattle.list_laws.specs.Signed.{eq_z}
use Rattle.replay_input.specs.Stamps.{is_stamped}
use Rattle.replay_input.proofs.kernel.stamps.is_stamped.Goals as goal

pub loop-i-init : goal.loop-i-init
loop-i-init c =
    below_none _

pub loop-i-preserved : goal.loop-i-preserved
loop-i-preserved c =
    below_next c.loop-i.i _ c.loop-i.invariant (c.equal_at-ok.ensures ∙ ap (eq_z (at c.args.out.now c.loop-i.i)) (to_z-of_z {w = w64} {z = c.stamp_at.result} (search rules) ∙ c.stamp_at.ensures))

pub returns : goal.returns
unfolding is_stamped
returns c =
    below_end _ c.loop-i.invariant (omega arith)
