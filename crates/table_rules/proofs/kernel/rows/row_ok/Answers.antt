-- `table_rules::kernel::rows::row_ok` meets its contract.
use native.Mathlib.Omega.{arith}
use lib.IntN.{pos, negsuc}
use Rattle.list_laws.specs.Lists.{at}
use Rattle.list_laws.proofs.WithinLaws.{handed-equal}
use Rattle.table_rules.specs.Rows.{spanned}
use Rattle.table_rules.proofs.RowLaws.{rule-is}
use Rattle.table_rules.proofs.kernel.rows.row_ok.Goals as goal

pub returns : goal.returns
returns c =
    let o = c.args.row.zero.numbers in
    let a = c.args.row.first.numbers in
    let b = c.args.row.second.numbers in
    let d = c.args.row.third.numbers in
    rule-is o a b d c.args.row.zero.long _ _ _ _ _
    (handed-equal (at o 0) (pos 0) c.component.type_inv c.component.ensures (omega arith))
    (handed-equal (at o 1) (pos 0) c.component-2.type_inv c.component-2.ensures (omega arith))
    (handed-equal (at o 2) (pos 0) c.component-3.type_inv c.component-3.ensures (omega arith))
    (handed-equal (spanned a b d) (pos 1) c.spanned-det.type_inv c.spanned-det.ensures (omega arith))
    (handed-equal (spanned a b d) (negsuc 0) c.spanned-det.type_inv c.spanned-det.ensures (omega arith))
