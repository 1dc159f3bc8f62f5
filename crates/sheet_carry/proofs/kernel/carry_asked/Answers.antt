-- `sheet_carry::kernel::carry_asked` meets its contract.
use Rattle.ask.proofs.RefusalLaws.{handed-on}
use mir.Syntax.{w64}
use mir.ValLaws.{to_z-of_z}
use native.Mathlib.Omega.{arith}
use Rattle.marks.proofs.BytesLaws.{held-few}
use Rattle.sheet_fill.specs.Kept.{study_in}
use Rattle.sheet_step.specs.Lent.{sheet_of}
use Rattle.sheet_step.specs.Steps.{Sheet, pieces_of}
use Rattle.sheet_turn.proofs.TurnLaws.{long-yes, ready_made}
use Rattle.sheet_carry.proofs.CarryLaws.{carry-done, carry-full}
use Rattle.sheet_carry.proofs.kernel.carry_asked.Goals.{Start}
use Rattle.sheet_carry.proofs.kernel.carry_asked.Goals as goal

-- the sheet that the call takes
abbrev start : Start → Sheet
start s = sheet_of s.args.sheet.now s.args.tally.runs

pub overflow_mul-pieces : goal.overflow_mul-pieces
overflow_mul-pieces c =
    omega (arith, held-few (pieces_of c.args.work.now.prepared.tested.sizes) c.args.sheet.now.marks.now (long-yes (study_in c.args.work.now.prepared) (start (goal.at.overflow_mul-pieces c).Start) c.requires.common c.args.work.now.prepared.tested.counts).1.1)

pub open_pieces-count-requires : goal.open_pieces-count-requires
open_pieces-count-requires c =
    rw c.marks.ensures (long-yes (study_in c.args.work.now.prepared) (start (goal.at.open_pieces-count-requires c).Start) c.requires.common c.args.work.now.prepared.tested.counts).1.1

pub returns-in_err-added-clause-did : goal.returns-in_err-added-clause-did
returns-in_err-added-clause-did c =
    let told : _ = rw (to_z-of_z w64 c.args.worker c.ranges.worker, c.open_pieces-count.ensures, c.marks.ensures, c.in_err-added.was) at c.add.ensures in
    rw (handed-on _ c.from_residual.ensures.1) (carry-full (study_in c.args.work.now.prepared) (start (goal.at.returns-in_err-added-clause-did c).Start) c.requires.common c.args.work.now.prepared.tested.counts c.args.worker _ told)

pub fill_open-requires-clause-fits : goal.fill_open-requires-clause-fits
fill_open-requires-clause-fits c = (ready_made (study_in c.args.work.now.prepared) (start (goal.at.fill_open-requires-clause-fits c).Start) c.requires.common c.args.work.now.prepared.tested.counts).fits

pub fill_open-requires-clause-held : goal.fill_open-requires-clause-held
fill_open-requires-clause-held c = (long-yes (study_in c.args.work.now.prepared) (start (goal.at.fill_open-requires-clause-held c).Start) c.requires.common c.args.work.now.prepared.tested.counts).1.1

pub returns-clause-did : goal.returns-clause-did
returns-clause-did c =
    let told : _ = rw (to_z-of_z w64 c.args.worker c.ranges.worker, c.open_pieces-count.ensures, c.marks.ensures, c.in_ok-added.was) at c.add.ensures in
    carry-done (study_in c.args.work.now.prepared) (start (goal.at.returns-clause-did c).Start) c.requires.common c.args.work.now.prepared.tested.counts c.args.worker _ told c.fill_open.ensures.computes c.fill_open.ensures.marks_after
