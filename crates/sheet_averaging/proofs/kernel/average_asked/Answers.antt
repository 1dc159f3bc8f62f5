-- `sheet_averaging::kernel::average_asked` meets its contract.
use lib.ListN.{length}
use lib.Signed.{mag}
use mathlib.Core.Path.{◌≡◌}
use mir.Syntax.{w64}
use mir.ValLaws.{to_z-of_z}
use Prim.Native.Nat.{◌<◌}
use Rattle.list_laws.proofs.SignedLaws.{mag-given}
use Rattle.ask.specs.Ask.{first_no}
use Rattle.ask.proofs.RefusalLaws.{given-is, handed-on}
use Rattle.sheet_turn.proofs.TurnLaws.{long-yes}
use Rattle.sheet_averaging.proofs.AveragingLaws.{average-done, average-refused, average-on, average-place}
use Rattle.sheet_step.proofs.StepLaws.{done-did}
use Rattle.sheet_step.specs.Lent.{sheet_of}
use Rattle.sheet_step.specs.Steps.{Sheet, sheet, average, average_questions}
use Rattle.triplet_study.specs.Lent.{study_of}
use Rattle.triplet_study.proofs.TestedLaws.{tested-counted}
use Rattle.sheet_averaging.proofs.kernel.average_asked.Goals.{Start, After-magnitude-t}
use Rattle.sheet_averaging.proofs.kernel.average_asked.Goals as goal

abbrev start : Start → Sheet
start s = sheet_of s.args.sheet.now s.args.tally.runs

-- 14 to 19 say yes
yes : (c : After-magnitude-t) → first_no (average_questions c.args.tested.now.sizes c.args.sheet.now.weights.now c.args.sheet.now.marks.now c.args.triplet c.args.ids1.now c.args.ids2.now) ≡ 0
yes c =
    let told : _ = rw (to_z-of_z w64 c.args.triplet c.ranges.triplet, c.weights.ensures, c.marks.ensures, c.counted_sizes-counts.ensures, c.in_ok-ask_average.was) at c.ask_average.ensures in
    (given-is _ _ tt told).0

-- the triplet by its number
number : (c : After-magnitude-t) → c.magnitude-t.result ≡ mag c.args.triplet
number c = mag-given c.args.triplet c.ranges.triplet c.magnitude-t.ensures

on : (c : After-magnitude-t) → ((c.magnitude-t.result < c.args.tested.now.sizes.triplets) × (c.args.tested.now.sizes.bands1 ≡ c.args.tested.now.sizes.bands2))
    × ((length c.args.ids1.now ≡ c.args.tested.now.sizes.bands1) × (length c.args.ids2.now ≡ c.args.tested.now.sizes.bands1))
on c = average-on (study_of c.args.tested.now.study) (sheet c.args.sheet.now.weights.now c.args.sheet.now.flags.now c.args.sheet.now.marks.now c.args.tally.runs) c.requires c.args.tested.now.counts c.args.triplet c.args.ids1.now c.args.ids2.now (yes c) c.magnitude-t.result (number c)

pub ask_average-requires : goal.ask_average-requires
ask_average-requires c =
    let l = long-yes (study_of c.args.tested.now.study) (start (goal.at.ask_average-requires c).Start) c.requires c.args.tested.now.counts in
    rw (c.weights.ensures, c.marks.ensures, c.counted_sizes-counts.ensures) (l.0, l.1.1)

pub returns-in_err-ask_average-clause-did : goal.returns-in_err-ask_average-clause-did
returns-in_err-ask_average-clause-did c =
    let told : _ = rw (to_z-of_z w64 c.args.triplet c.ranges.triplet, c.weights.ensures, c.marks.ensures, c.counted_sizes-counts.ensures, c.in_err-ask_average.was) at c.ask_average.ensures in
    rw (handed-on _ c.from_residual.ensures.1) (average-refused (study_of c.args.tested.now.study) (start (goal.at.returns-in_err-ask_average-clause-did c).Start) c.requires c.args.tested.now.counts c.args.triplet c.args.ids1.now c.args.ids2.now _ told)

pub invariant_of-by : goal.invariant_of-by
invariant_of-by c =
    let told = on (goal.at.invariant_of-by c).After-magnitude-t in
    record { on_sheet = rw c.counted_sizes-counts.ensures told.0; listed = rw c.counted_sizes-counts.ensures told.1 }

pub average_weights-requires : goal.average_weights-requires
average_weights-requires c =
    rw c.counted_sizes-counts.ensures (long-yes (study_of c.args.tested.now.study) (start (goal.at.average_weights-requires c).Start) c.requires c.args.tested.now.counts).0

pub average_flags-requires : goal.average_flags-requires
average_flags-requires c =
    rw c.counted_sizes-counts.ensures (long-yes (study_of c.args.tested.now.study) (start (goal.at.average_flags-requires c).Start) c.requires c.args.tested.now.counts).1.0

pub average_marks-requires : goal.average_marks-requires
average_marks-requires c =
    let t = (goal.at.average_marks-requires c).After-magnitude-t in
    ((tested-counted c.args.tested.now).pairs-some, average-place (study_of c.args.tested.now.study) (start (goal.at.average_marks-requires c).Start) c.requires c.args.tested.now.counts c.args.triplet c.args.ids1.now c.args.ids2.now (yes t) c.magnitude-t.result (number t))

pub returns-clause-did : goal.returns-clause-did
returns-clause-did c =
    let t = (goal.at.returns-clause-did c).After-magnitude-t in
    done-did (study_of c.args.tested.now.study) (start (goal.at.returns-clause-did c).Start) (average c.args.triplet c.args.ids1.now c.args.ids2.now) c.args.tally _ _ _
    (average-done (study_of c.args.tested.now.study) (start (goal.at.returns-clause-did c).Start) c.requires c.args.tested.now.counts c.args.triplet c.args.ids1.now c.args.ids2.now (yes t) c.magnitude-t.result (number t) (rw c.counted_sizes-counts.ensures at c.average_weights.ensures) (rw c.counted_sizes-counts.ensures at c.average_flags.ensures) c.average_marks.ensures)
