-- `common::kernel::row_times` meets its contract.
use mir.Syntax.{w64}
use mir.Val.{SFits}
use mir.ValLaws.{to_z-of_z}
use native.Mathlib.Omega.{arith}
use Rattle.std.proofs.Common.{rules}
use Rattle.common.proofs.MatrixLaws.{vector-at}
use Rattle.ieee_laws.proofs.CastLaws.{within-float}
use Rattle.list_laws.specs.Lists.{at}
use Rattle.common.proofs.kernel.row_times.Goals as goal

pub int_to_float-result : goal.int_to_float-result
int_to_float-result c =
    let f : SFits w64 (at c.args.b 0) = search rules in
    rw (to_z-of_z w64 _ f) (within-float 4096 (at c.args.b 0) (omega arith) (vector-at c.args.b 0 (omega arith) c.requires))

pub int_to_float-result-2 : goal.int_to_float-result-2
int_to_float-result-2 c =
    let f : SFits w64 (at c.args.b 1) = search rules in
    rw (to_z-of_z w64 _ f) (within-float 4096 (at c.args.b 1) (omega arith) (vector-at c.args.b 1 (omega arith) c.requires))

pub int_to_float-result-3 : goal.int_to_float-result-3
int_to_float-result-3 c =
    let f : SFits w64 (at c.args.b 2) = search rules in
    rw (to_z-of_z w64 _ f) (within-float 4096 (at c.args.b 2) (omega arith) (vector-at c.args.b 2 (omega arith) c.requires))
