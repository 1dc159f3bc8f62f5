-- `replay_input::kernel::stamps::stamp` meets its contract: at each turn the front of the buffer holds the stamps.
use Prim.Native.Nat.{ℕ}
use borrow.Author.Rules.{rules}
use lib.ListN.{length-set}
use mathlib.Core.Path.{◌∙◌, ap, refl}
use mir.Facts.{to_z-of_z}
use mir.Syntax.{w64}
use native.Mathlib.Omega.{arith}
use Rattle.list_laws.proofs.FillLaws.{front-all, front-none}
use Rattle.list_laws.specs.Lists.{tabulate}
use Rattle.replay_input.proofs.FieldLaws.{list-next}
use Rattle.replay_input.specs.Stamps.{stamp_at}
use Rattle.replay_input.proofs.kernel.stamps.stamp.Goals as goal

pub loop-i-init : goal.loop-i-init
loop-i-init c =
    (refl, front-none _ _)

pub loop-i-preserved : goal.loop-i-preserved
loop-i-preserved c =
    (simp length-set (omega arith), list-next c.args.out.now stamp_at c.loop-i.i (omega arith) c.loop-i.invariant.1 (to_z-of_z {w = w64} {z = c.stamp_at.result} (search rules) ∙ c.stamp_at.ensures))

pub returns : goal.returns
returns c =
    c.loop-i.invariant.1 ∙ front-all stamp_at c.args.out.now c.loop-i.i (omega arith) ∙ ap (λ (n : ℕ). tabulate n stamp_at) (omega arith)
