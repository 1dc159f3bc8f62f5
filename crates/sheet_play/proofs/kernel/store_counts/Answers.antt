-- `sheet_play::kernel::store_counts` meets its contract: at each turn the front of the row holds the counts.
use lib.ListN.{get_or, length-set}
use mathlib.Core.Path.{◌∙◌, ap, refl}
use native.Mathlib.Omega.{arith}
use Prim.Native.Nat.{ℕ}
use Rattle.list_laws.proofs.FillLaws.{front-all, front-next, front-none}
use Rattle.list_laws.specs.Lists.{tabulate}
use Rattle.sheet_play.proofs.kernel.store_counts.Goals as goal

pub loop-k-init : goal.loop-k-init
loop-k-init c = (refl, front-none _ _)

pub loop-k-preserved : goal.loop-k-preserved
loop-k-preserved c = (
  simp length-set c.loop-k.invariant.0,
  rw c.loop-k.invariant.1 (front-next (λ j. get_or c.args.tally.runs j 0) c.args.row.now c.loop-k.k (get_or c.args.tally.runs c.loop-k.k 0) (omega arith) refl),
)

pub returns : goal.returns
returns c =
    c.loop-k.invariant.1 ∙ front-all (λ j. get_or c.args.tally.runs j 0) c.args.row.now c.loop-k.k (omega arith)
    ∙ ap (λ (n : ℕ). tabulate n (λ j. get_or c.args.tally.runs j 0)) (omega arith)
