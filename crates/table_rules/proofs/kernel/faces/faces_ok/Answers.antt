-- `table_rules::kernel::faces::faces_ok` meets its contract.
use mathlib.Core.Path.{◌≡◌, ◌∙◌, refl, sym, ap}
use mathlib.Core.List.{[]}
use native.Mathlib.Omega.{arith}
use lib.ListN.{get_or}
use Rattle.list_laws.proofs.BelowLaws.{below_none, below_next}
use Rattle.table_rules.specs.Rows.{rows_of}
use Rattle.table_rules.specs.Faces.{is_row_paired, are_paired}
use Rattle.table_rules.proofs.RowLaws.{row-is}
use Rattle.table_rules.proofs.kernel.faces.faces_ok.Goals as goal

pub loop-r-init : goal.loop-r-init
loop-r-init c = below_none _

pub loop-r-preserved : goal.loop-r-preserved
loop-r-preserved c =
    let table = c.args.table.numbers.now in
    below_next c.loop-r.r (λ r. is_row_paired (rows_of table) (get_or (rows_of table) r [])) c.loop-r.invariant
    (c.is_row_paired-ok.ensures ∙ ap (is_row_paired (rows_of table)) (c.row.ensures ∙ sym (row-is table c.loop-r.r (omega arith))))

pub returns : goal.returns
unfolding are_paired
returns c =
    let e : c.loop-r.r ≡ 24 = omega arith in rw (c.loop-r.invariant, e) refl
