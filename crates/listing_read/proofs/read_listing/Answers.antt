-- `listing_read::read_listing` meets its contract: nothing is written before every question is answered yes.
use borrow.Author.Tests.{eqb-true}
use lib.Dec.{eqb}
use lib.Signed.{mag}
use lib.ListN.{length}
use mathlib.Core.Path.{◌∙◌, ◌≡◌}
use mir.Syntax.{w64}
use mir.ValLaws.{to_z-of_z}
use native.Mathlib.Omega.{arith}
use Rattle.list_laws.proofs.BoolLaws.{and_left, and_right}
use Rattle.ask.proofs.AskLaws.{after-done, all_yes}
use Rattle.ask.proofs.RefusalLaws.{given-is}
use Rattle.ask.specs.Ask.{AllYes}
use Rattle.sheet_counts.proofs.SheetCountLaws.{all-cells-le, counts-low}
use Rattle.sheet_counts.specs.SheetCounts.{cells_of, weight_count_of}
use Rattle.question_values.specs.TpTypes.{channels_of}
use Rattle.triplet_types.specs.Types.{tp_type_of}
use Rattle.listing_read.specs.Forms.{form_of}
use Rattle.listing_read.proofs.RestoredLaws.{form-is}
use Rattle.listing_read.specs.Reading.{is_listed, listed_flags, listed_weights, read_no, read_questions}
use Rattle.listing_read.proofs.read_listing.Goals.{In_ok-form}
use Rattle.listing_read.proofs.read_listing.Goals as goal

told : (c : In_ok-form) → (read_no c.args.listing.now c.args.tp_type c.args.counts (length c.args.weights.now) (length c.args.flags.now) ≡ 0) × (c.in_ok-form.form ≡ form_of (tp_type_of c.args.tp_type) c.args.counts)
told c = given-is _ _ _ (rw (to_z-of_z w64 c.args.tp_type c.ranges.tp_type, c.in_ok-form.was) at c.ask_listing.ensures)

-- an accepted call has no no
none : (c : In_ok-form) → read_no c.args.listing.now c.args.tp_type c.args.counts (length c.args.weights.now) (length c.args.flags.now) ≡ 0
none c = (told c).0

-- what the questions told
yes : (c : In_ok-form) → AllYes (read_questions c.args.listing.now c.args.tp_type c.args.counts (length c.args.weights.now) (length c.args.flags.now))
yes c =
    all_yes (read_questions c.args.listing.now c.args.tp_type c.args.counts (length c.args.weights.now) (length c.args.flags.now)) (omega arith, (omega arith, (omega arith, (omega arith, tt)))) (none c)

flags-are : (c : In_ok-form) → length c.args.flags.now ≡ cells_of c.args.counts
flags-are c = eqb-true _ _ (and_right (eqb (length c.args.weights.now) (weight_count_of c.args.tp_type c.args.counts)) _ (yes c).1.1.0)

weights-are : (c : In_ok-form) → length c.args.weights.now ≡ weight_count_of c.args.tp_type c.args.counts
weights-are c = eqb-true _ _ (and_left (eqb (length c.args.weights.now) (weight_count_of c.args.tp_type c.args.counts)) _ (yes c).1.1.0)

-- the form is that of the type and counts
formed : (c : In_ok-form) → c.in_ok-form.form ≡ record { points = mag c.args.counts.num_band0; bands1 = mag c.args.counts.num_band1; bands2 = mag c.args.counts.num_band2; channels = channels_of c.args.tp_type }
formed c = (told c).1 ∙ form-is c.args.tp_type c.args.counts

pub invariant_of-tested : goal.invariant_of-tested
invariant_of-tested c = record { formed = rw (formed (goal.at.invariant_of-tested c).In_ok-form) (counts-low c.args.counts (yes (goal.at.invariant_of-tested c).In_ok-form).1.0) }

pub restore-requires-clause-counts : goal.restore-requires-clause-counts
restore-requires-clause-counts c =
    let asked : In_ok-form = (goal.at.restore-requires-clause-counts c).In_ok-form in
    let e = formed asked in
    let f = flags-are asked in
    (omega (arith, f, all-cells-le c.args.counts (yes asked).1.0), weights-are asked ∙ rw (e, f))

pub restore-requires-clause-text_value : goal.restore-requires-clause-text_value
unfolding is_listed
restore-requires-clause-text_value c =
    rw (formed (goal.at.restore-requires-clause-text_value c).In_ok-form, flags-are (goal.at.restore-requires-clause-text_value c).In_ok-form) (yes (goal.at.restore-requires-clause-text_value c).In_ok-form).1.1.1.0

pub returns-clause-leaves : goal.returns-clause-leaves
unfolding listed_weights
returns-clause-leaves c =
    (rw (formed (goal.at.returns-clause-leaves c).In_ok-form, flags-are (goal.at.returns-clause-leaves c).In_ok-form) at c.restore.ensures.weights_after)
    ∙ after-done _ _ _ (none (goal.at.returns-clause-leaves c).In_ok-form)

pub returns-clause-leaves_2 : goal.returns-clause-leaves_2
unfolding listed_flags
returns-clause-leaves_2 c =
    (rw (formed (goal.at.returns-clause-leaves_2 c).In_ok-form, flags-are (goal.at.returns-clause-leaves_2 c).In_ok-form) at c.restore.ensures.flags_after)
    ∙ after-done _ _ _ (none (goal.at.returns-clause-leaves_2 c).In_ok-form)
