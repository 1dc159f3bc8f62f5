-- `table_rules::kernel::faces::is_paired` meets its contract: the rows before this one that have the face, and those on either side of it.
use mathlib.Core.Path.{◌≡◌}
use Rattle.table_rules.specs.Rows.{rows_of}
use Rattle.table_rules.specs.Faces.{has_face, lies_above, lies_below, rows_with}
use Rattle.table_rules.proofs.kernel.faces.is_paired.Given as goal

abbrev pub invariant-loop-s : goal.invariant-loop-s
invariant-loop-s l =
    let rows = rows_of l.table.numbers.now in
    (l.having ≡ rows_with has_face rows l.a.numbers l.b.numbers l.s) × ((l.above ≡ rows_with lies_above rows l.a.numbers l.b.numbers l.s) × (l.below ≡ rows_with lies_below rows l.a.numbers l.b.numbers l.s))
