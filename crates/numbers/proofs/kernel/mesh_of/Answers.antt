-- `numbers::kernel::mesh_of` meets its contract.
use mir.Syntax.{w64}
use mir.Val.{SFits}
use mir.ValLaws.{to_z-of_z}
use Rattle.std.proofs.Common.{rules}
use Rattle.list_laws.specs.Lists.{at}
use Rattle.numbers.specs.Mesh.{mesh_of}
use Rattle.numbers.proofs.kernel.mesh_of.Goals as goal

pub returns : goal.returns
unfolding mesh_of
returns c =
    let f0 : SFits w64 (at c.args.d_diag 0) = search rules in
    let f1 : SFits w64 (at c.args.d_diag 1) = search rules in
    let f2 : SFits w64 (at c.args.d_diag 2) = search rules in
    cc (to_z-of_z w64 _ f0, to_z-of_z w64 _ f1, to_z-of_z w64 _ f2)
