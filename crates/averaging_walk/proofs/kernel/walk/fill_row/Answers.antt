-- `averaging_walk::kernel::walk::fill_row` meets its contract: at each turn the entries so far are filled.
use mathlib.Core.Path.{ap, ◌∙◌}
use mathlib.Core.List.{List}
use native.Mathlib.Omega.{arith}
use lib.ListN.{set}
use Rattle.averaging_walk.proofs.RowLaws.{replicated-more}
use Rattle.averaging_walk.proofs.kernel.walk.fill_row.Goals as goal

pub loop-entry-preserved : goal.loop-entry-preserved
loop-entry-preserved g c =
    ap (λ (l : List _). set l c.loop-entry.entry-index c.args.value) c.loop-entry.invariant
    ∙ replicated-more c.args.value c.args.row.now c.loop-entry.entry-index (omega arith)
