-- The rows of twelve, one after the other.
use mathlib.Core.Path.{◌∙◌}
use Rattle.tetrahedron_tables.proofs.TableLaws.{flat-at, twelves}
use Rattle.tetrahedron_tables.specs.Tables.{table_of, table0, table1, table2, table3}
use mathlib.Core.List.{flatten}
use Rattle.tetrahedron_tables.proofs.kernel.table.Goals as goal

pub returns-clause-value : goal.returns-clause-value
unfolding table_of table0 table1 table2 table3 twelves flatten
returns-clause-value c = c.as_flattened.ensures.value ∙ flat-at c.args.diagonal c.requires
