-- `bzgrid_lookup::kernel::moved_by` meets its contract.
use Prim.Native.Nat.{◌*◌, ◌+◌}
use mir.Syntax.{w64}
use mir.Val.{SFits}
use mir.ValLaws.{to_z-of_z}
use native.Mathlib.Omega.{arith}
use Rattle.bzgrid_lookup.specs.Neighbours.{moved}
use Rattle.list_laws.proofs.SignedLaws.{back, sum_fits}
use Rattle.list_laws.specs.Lists.{at}
use Rattle.question_grids.proofs.GridLaws.{triples-at}
use Rattle.bzgrid_lookup.proofs.kernel.moved_by.Goals as goal

pub overflow_add-result-3 : goal.overflow_add-result-3
overflow_add-result-3 c =
    let f : SFits w64 (moved c.args.addresses.numbers.now c.args.steps.numbers.now c.args.g c.args.j c.args.i) = sum_fits 4096 (at c.args.addresses.numbers.now (3 * c.args.g + c.args.i)) (at c.args.steps.numbers.now (3 * c.args.j + c.args.i)) (omega arith) (triples-at c.args.addresses.numbers.now c.args.addresses.tested (3 * c.args.g + c.args.i) c.requires.0) (triples-at c.args.steps.numbers.now c.args.steps.tested (3 * c.args.j + c.args.i) c.requires.1) in
    rw (back (at c.args.addresses.numbers.now (3 * c.args.g + c.args.i)) c.result-1.given, back (at c.args.steps.numbers.now (3 * c.args.j + c.args.i)) c.result-2-1.given) f

pub returns : goal.returns
returns c =
    let f : SFits w64 (moved c.args.addresses.numbers.now c.args.steps.numbers.now c.args.g c.args.j c.args.i) = sum_fits 4096 (at c.args.addresses.numbers.now (3 * c.args.g + c.args.i)) (at c.args.steps.numbers.now (3 * c.args.j + c.args.i)) (omega arith) (triples-at c.args.addresses.numbers.now c.args.addresses.tested (3 * c.args.g + c.args.i) c.requires.0) (triples-at c.args.steps.numbers.now c.args.steps.tested (3 * c.args.j + c.args.i) c.requires.1) in
    rw (back (at c.args.addresses.numbers.now (3 * c.args.g + c.args.i)) c.result-1.given, back (at c.args.steps.numbers.now (3 * c.args.j + c.args.i)) c.result-2-1.given) (to_z-of_z w64 (moved c.args.addresses.numbers.now c.args.steps.numbers.now c.args.g c.args.j c.args.i) f)
