-- `table_rules::kernel::corners::spanned` meets its contract.
use Rattle.list_laws.specs.Lists.{at}
use Rattle.tetrahedron_tables.specs.Tables.{det}
use Rattle.table_rules.specs.Rows.{spanned}
use Rattle.list_laws.proofs.WithinLaws.{handed, handed-small}
use Rattle.table_rules.proofs.kernel.corners.spanned.Goals as goal

pub minor-requires : goal.minor-requires
minor-requires c = (
  (
    handed-small 10000 (at c.args.b.numbers 1) c.component-b1.type_inv c.component-b1.ensures (c.args.b.small 1),
    handed-small 10000 (at c.args.b.numbers 2) c.component-b2.type_inv c.component-b2.ensures (c.args.b.small 2),
  ),
  (
    handed-small 10000 (at c.args.c.numbers 1) c.component-c1.type_inv c.component-c1.ensures (c.args.c.small 1),
    handed-small 10000 (at c.args.c.numbers 2) c.component-c2.type_inv c.component-c2.ensures (c.args.c.small 2),
  ),
)

pub minor-requires-2 : goal.minor-requires-2
minor-requires-2 c = (
  (
    handed-small 10000 (at c.args.b.numbers 0) c.component-b0.type_inv c.component-b0.ensures (c.args.b.small 0),
    handed-small 10000 (at c.args.b.numbers 2) c.component-b2.type_inv c.component-b2.ensures (c.args.b.small 2),
  ),
  (
    handed-small 10000 (at c.args.c.numbers 0) c.component-c0.type_inv c.component-c0.ensures (c.args.c.small 0),
    handed-small 10000 (at c.args.c.numbers 2) c.component-c2.type_inv c.component-c2.ensures (c.args.c.small 2),
  ),
)

pub minor-requires-3 : goal.minor-requires-3
minor-requires-3 c = (
  (
    handed-small 10000 (at c.args.b.numbers 0) c.component-b0.type_inv c.component-b0.ensures (c.args.b.small 0),
    handed-small 10000 (at c.args.b.numbers 1) c.component-b1.type_inv c.component-b1.ensures (c.args.b.small 1),
  ),
  (
    handed-small 10000 (at c.args.c.numbers 0) c.component-c0.type_inv c.component-c0.ensures (c.args.c.small 0),
    handed-small 10000 (at c.args.c.numbers 1) c.component-c1.type_inv c.component-c1.ensures (c.args.c.small 1),
  ),
)

pub returns : goal.returns
unfolding det
returns c =
    handed (spanned c.args.a.numbers c.args.b.numbers c.args.c.numbers) c.expanded.type_inv
    (rw (
      handed _ c.minor.type_inv c.minor.ensures.value,
      handed _ c.minor-2.type_inv c.minor-2.ensures.value,
      handed _ c.minor-3.type_inv c.minor-3.ensures.value,
      handed (at c.args.b.numbers 0) c.component-b0.type_inv c.component-b0.ensures,
      handed (at c.args.b.numbers 1) c.component-b1.type_inv c.component-b1.ensures,
      handed (at c.args.b.numbers 2) c.component-b2.type_inv c.component-b2.ensures,
      handed (at c.args.c.numbers 0) c.component-c0.type_inv c.component-c0.ensures,
      handed (at c.args.c.numbers 1) c.component-c1.type_inv c.component-c1.ensures,
      handed (at c.args.c.numbers 2) c.component-c2.type_inv c.component-c2.ensures,
    ) at c.expanded.ensures)
