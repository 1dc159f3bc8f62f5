-- `grgrid::kernel::grid_index` meets its contract.
use mir.Syntax.{w64}
use mir.Val.{SFits}
use mir.ValLaws.{to_z-of_z}
use native.Mathlib.Omega.{arith}
use Rattle.std.proofs.Common.{rules}
use Rattle.numbers.proofs.MeshLaws.{count-le}
use Rattle.numbers.specs.Mesh.{count_of}
use Rattle.grgrid.proofs.IndexLaws.{index-lt}
use Rattle.grgrid.specs.Index.{grid_index}
use Rattle.grgrid.proofs.kernel.grid_index.Goals as goal

pub overflow_mul-result-2 : goal.overflow_mul-result-2
unfolding grid_index count_of
overflow_mul-result-2 c =
    let f : SFits w64 c.args.a.z = search rules in
    let e2 : _ = rw (to_z-of_z w64 c.args.a.z f) at c.rem_euclid-r2.ensures in
    rw e2 (omega (arith, index-lt c.requires c.args.a, count-le c.requires))

pub overflow_add-result : goal.overflow_add-result
unfolding grid_index count_of
overflow_add-result c =
    let f : SFits w64 c.args.a.y = search rules in
    let g : SFits w64 c.args.a.z = search rules in
    let e1 : _ = rw (to_z-of_z w64 c.args.a.y f) at c.rem_euclid-r1.ensures in
    let e2 : _ = rw (to_z-of_z w64 c.args.a.z g) at c.rem_euclid-r2.ensures in
    rw (e1, e2) (omega (arith, index-lt c.requires c.args.a, count-le c.requires))

pub overflow_add-result-2 : goal.overflow_add-result-2
unfolding grid_index count_of
overflow_add-result-2 c =
    let f : SFits w64 c.args.a.x = search rules in
    let g : SFits w64 c.args.a.y = search rules in
    let h : SFits w64 c.args.a.z = search rules in
    let e0 : _ = rw (to_z-of_z w64 c.args.a.x f) at c.rem_euclid-r0.ensures in
    let e1 : _ = rw (to_z-of_z w64 c.args.a.y g) at c.rem_euclid-r1.ensures in
    let e2 : _ = rw (to_z-of_z w64 c.args.a.z h) at c.rem_euclid-r2.ensures in
    rw (e0, e1, e2) (omega (arith, index-lt c.requires c.args.a, count-le c.requires))
