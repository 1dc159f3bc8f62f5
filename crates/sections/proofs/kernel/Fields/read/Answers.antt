-- `sections::kernel::Fields::read` meets its contract.
use mathlib.Core.Path.{◌∙◌, sym}
use native.Mathlib.Omega.{arith}
use lib.ListN.{length-set}
use Rattle.sections.proofs.RowLaws.{row-short, row-bad, row_more}
use Rattle.sections.proofs.kernel.Fields.read.Goals as goal

pub returns-then-line-from : goal.returns-then-line-from
returns-then-line-from g c =
    rw length-set (row-short g.T.Field.spelled c.args.self.line.now c.args.self.next c.loop-value.row c.loop-value.from c.loop-value.value-index c.loop-value.invariant (omega arith) (omega arith))

pub returns-in_err-value : goal.returns-in_err-value
returns-in_err-value g c =
    rw (length-set, c.from_residual.ensures)
    (row-bad g.T.Field.spelled c.args.self.line.now c.args.self.next c.loop-value.row c.loop-value.from c.loop-value.value-index c.loop-value.invariant (omega arith) (omega arith) c.cut-end.result c.cut-end.ensures.0
    (sym c.in_err-value.was ∙ c.parse.ensures))

pub loop-value-preserved : goal.loop-value-preserved
loop-value-preserved g c =
    row_more g.T.Field.spelled c.args.self.line.now c.args.self.next c.loop-value.row c.loop-value.from c.loop-value.value-index c.loop-value.invariant (omega arith) (omega arith) c.cut-end.result c.cut-end.ensures.0 c.in_ok-value.field-0
    (sym c.in_ok-value.was ∙ c.parse.ensures)
