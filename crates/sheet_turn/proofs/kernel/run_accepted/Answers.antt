-- `sheet_turn::kernel::run_accepted` meets its contract.
use lib.Signed.{mag}
use mathlib.Core.Path.{◌≡◌}
use borrow.Author.Rules.{rules}
use mir.Syntax.{w64}
use mir.ValLaws.{to_z-of_z}
use native.Mathlib.Omega.{arith}
use Prim.Native.Nat.{◌+◌, ◌*◌, ◌<◌}
use Rattle.list_laws.proofs.SignedLaws.{mag-given}
use Rattle.marks.proofs.BytesLaws.{small-mark}
use Rattle.sheet_step.proofs.StepLaws.{run-yes}
use Rattle.sheet_step.specs.Lent.{sheet_of}
use Rattle.sheet_step.specs.Steps.{Sheet}
use Rattle.sheet_turn.proofs.TurnLaws.{ready_made, run-done, run_on, run-place, run_small}
use Rattle.sheet_fill.specs.Kept.{study_in}
use Rattle.sheet_turn.proofs.kernel.run_accepted.Goals.{After-magnitude-n2, Start}
use Rattle.sheet_turn.proofs.kernel.run_accepted.Goals as goal

-- what the call takes
abbrev start : Start → Sheet
start s = sheet_of s.args.sheet.now s.args.tally.runs

-- the piece by its three numbers
nt : (c : After-magnitude-n2) → c.magnitude-t.result ≡ mag c.args.piece.triplet
nt c = mag-given c.args.piece.triplet (search rules) c.magnitude-t.ensures

n1 : (c : After-magnitude-n2) → c.magnitude-n1.result ≡ mag c.args.piece.b1
n1 c = mag-given c.args.piece.b1 (search rules) c.magnitude-n1.ensures

n2 : (c : After-magnitude-n2) → c.magnitude-n2.result ≡ mag c.args.piece.b2
n2 c = mag-given c.args.piece.b2 (search rules) c.magnitude-n2.ensures

small : (c : After-magnitude-n2) → c.magnitude-t.result * c.args.work.now.prepared.tested.sizes.pairs + (c.magnitude-n1.result * c.args.work.now.prepared.tested.sizes.bands2 + c.magnitude-n2.result) < 268435456
small c = run_small (study_in c.args.work.now.prepared) (sheet_of c.args.sheet.now c.args.tally.runs) c.requires.common c.args.work.now.prepared.tested.counts c.args.worker c.args.piece.triplet c.args.piece.b1 c.args.piece.b2 c.requires.own _ _ _ (nt c) (n1 c) (n2 c)

pub fill_named-requires-clause-fits : goal.fill_named-requires-clause-fits
fill_named-requires-clause-fits c = (ready_made (study_in c.args.work.now.prepared) (start (goal.at.fill_named-requires-clause-fits c).Start) c.requires.common c.args.work.now.prepared.tested.counts).fits

pub fill_named-requires-clause-on_sheet : goal.fill_named-requires-clause-on_sheet
fill_named-requires-clause-on_sheet c = (run_on (study_in c.args.work.now.prepared) (start (goal.at.fill_named-requires-clause-on_sheet c).Start) c.requires.common c.args.work.now.prepared.tested.counts c.args.worker c.args.piece.triplet c.args.piece.b1 c.args.piece.b2 c.requires.own _ _ _ (nt (goal.at.fill_named-requires-clause-on_sheet c).After-magnitude-n2) (n1 (goal.at.fill_named-requires-clause-on_sheet c).After-magnitude-n2) (n2 (goal.at.fill_named-requires-clause-on_sheet c).After-magnitude-n2))

pub overflow_mul-t : goal.overflow_mul-t
overflow_mul-t c = omega (arith, small (goal.at.overflow_mul-t c).After-magnitude-n2)

pub overflow_mul-n1 : goal.overflow_mul-n1
overflow_mul-n1 c = omega (arith, small (goal.at.overflow_mul-n1 c).After-magnitude-n2)

pub overflow_add-n1 : goal.overflow_add-n1
overflow_add-n1 c = omega (arith, small (goal.at.overflow_add-n1 c).After-magnitude-n2)

pub overflow_add-t : goal.overflow_add-t
overflow_add-t c = omega (arith, small (goal.at.overflow_add-t c).After-magnitude-n2)

pub set_mark-requires : goal.set_mark-requires
set_mark-requires c =
    (run-place (study_in c.args.work.now.prepared) (start (goal.at.set_mark-requires c).Start) c.requires.common c.args.work.now.prepared.tested.counts c.args.worker c.args.piece.triplet c.args.piece.b1 c.args.piece.b2 c.requires.own _ _ _ (nt (goal.at.set_mark-requires c).After-magnitude-n2) (n1 (goal.at.set_mark-requires c).After-magnitude-n2) (n2 (goal.at.set_mark-requires c).After-magnitude-n2), small-mark 1 (omega arith))

pub with_runs-requires : goal.with_runs-requires
with_runs-requires c =
    rw (to_z-of_z w64 c.args.worker c.ranges.worker) (run-yes c.args.work.now.prepared.tested.sizes c.args.sheet.now.marks.now c.args.piece.triplet c.args.piece.b1 c.args.piece.b2 c.args.tally.runs c.args.worker c.requires.own).1

pub returns-clause-called : goal.returns-clause-called
returns-clause-called c = let moved = rw (to_z-of_z w64 c.args.worker c.ranges.worker) at c.with_runs.ensures in
    run-done (study_in c.args.work.now.prepared) (start (goal.at.returns-clause-called c).Start) c.requires.common c.args.work.now.prepared.tested.counts c.args.worker c.args.piece.triplet c.args.piece.b1 c.args.piece.b2 c.requires.own _ _ _ (nt (goal.at.returns-clause-called c).After-magnitude-n2) (n1 (goal.at.returns-clause-called c).After-magnitude-n2) (n2 (goal.at.returns-clause-called c).After-magnitude-n2) moved c.fill_named.ensures.computes c.set_mark.ensures
