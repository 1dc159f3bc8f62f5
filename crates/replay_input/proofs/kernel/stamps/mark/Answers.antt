-- `replay_input::kernel::stamps::mark` meets its contract: at each turn the front of the buffer holds the marks.
use Prim.Native.Nat.{ℕ}
use lib.ListN.{length-set}
use mathlib.Core.Path.{◌∙◌, ap, refl}
use native.Mathlib.Omega.{arith}
use Rattle.list_laws.proofs.FillLaws.{front-all, front-none}
use Rattle.list_laws.specs.Lists.{tabulate}
use Rattle.replay_input.proofs.FieldLaws.{list-next}
use Rattle.replay_input.specs.Stamps.{mark_at}
use Rattle.replay_input.proofs.kernel.stamps.mark.Goals as goal

pub loop-i-init : goal.loop-i-init
loop-i-init c =
    (refl, front-none _ _)

pub loop-i-preserved : goal.loop-i-preserved
loop-i-preserved c =
    (simp length-set (omega arith), list-next c.args.out.now mark_at c.loop-i.i (omega arith) c.loop-i.invariant.1 c.mark_at.ensures)

pub returns : goal.returns
returns c =
    c.loop-i.invariant.1 ∙ front-all mark_at c.args.out.now c.loop-i.i (omega arith) ∙ ap (λ (n : ℕ). tabulate n mark_at) (omega arith)
