-- `tetrahedron_method::kernel::sorted::sort_rows` meets its contract.
use Rattle.tetrahedron_method.proofs.SortedLaws.{turned_next}
use Rattle.tetrahedron_sort.specs.declared.SortedOmegas.{SortedOmegas}
use mathlib.Core.Path.{ap}
use borrow.Author.Rules.{rules}
use native.Mathlib.Omega.{arith}
use Rattle.tetrahedron_method.proofs.kernel.sorted.sort_rows.Goals as goal

pub loop-k-preserved : goal.loop-k-preserved
loop-k-preserved c =
    (search rules, turned_next c.args.area.now c.loop-k.area c.loop-k.places c.loop-k.k (omega (arith, c.args.rows.few)) c.loop-k.invariant.1 c.sort_omegas-row.result.omegas c.sort_omegas-row.result.place (ap (λ (x : SortedOmegas). x.omegas) c.sort_omegas-row.ensures) (ap (λ (x : SortedOmegas). x.place) c.sort_omegas-row.ensures))
