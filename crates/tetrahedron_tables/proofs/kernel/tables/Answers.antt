-- The rows of twelve, one after the other.
use mathlib.Core.List.{List}
use mathlib.Core.Path.{◌∙◌, ap}
use lib.IntN.{ℤ}
use Rattle.std.specs.List.{flat_map}
use Rattle.tetrahedron_tables.proofs.TableLaws.{flat-all, twelves}
use Rattle.tetrahedron_tables.specs.Tables.{table_of, table0, table1, table2, table3}
use mathlib.Core.List.{flatten}
use Rattle.tetrahedron_tables.proofs.kernel.tables.Goals as goal

pub returns-clause-value : goal.returns-clause-value
unfolding table_of table0 table1 table2 table3 twelves flatten
returns-clause-value c = c.as_flattened-2.ensures.value ∙ ap (λ (t : List (List ℤ)). flat_map (λ r. r) t) c.as_flattened.ensures.value ∙ flat-all
