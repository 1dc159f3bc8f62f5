-- `listing_read::kernel::ask_listing` meets its contract: 8 and 9 first, then 12 and 22.
use borrow.Author.Tests.{eq-eqb, ne_eqb}
use mathlib.Core.Bool.{true}
use mathlib.Core.Path.{◌≡◌, ◌∙◌}
use mir.Syntax.{w64}
use mir.ValLaws.{to_z-of_z}
use Prim.Native.Nat.{◌*◌}
use Rattle.list_laws.proofs.BoolLaws.{no_of, yes_of}
use Rattle.ask.proofs.RefusalLaws.{given-is}
use Rattle.ask.specs.Ask.{first_no}
use Rattle.question_values.specs.TpTypes.{is_tp_type}
use Rattle.triplet_types.specs.Types.{tp_type_of}
use Rattle.sheet_counts.proofs.SheetCountLaws.{both-yes}
use Rattle.sheet_counts.specs.SheetCounts.{are_sheet_counts, count_questions, weight_count_of}
use Rattle.listing_read.specs.Forms.{form_of}
use Rattle.listing_read.specs.Reading.{is_listed}
use Rattle.listing_read.proofs.RestoredLaws.{form-is}
use Rattle.listing_read.proofs.kernel.ask_listing.Goals.{After-cells_of-cells, After-form_of, After-is_listing, In_ok-tp}
use Rattle.listing_read.proofs.kernel.ask_listing.Goals as goal

told : (c : In_ok-tp) → (first_no (count_questions c.args.tp_type c.args.counts) ≡ 0) × (c.in_ok-tp.tp ≡ tp_type_of c.args.tp_type)
told c = given-is _ _ _ (rw (to_z-of_z w64 c.args.tp_type c.ranges.tp_type, c.in_ok-tp.was) at c.ask_counts.ensures)

yes : (c : In_ok-tp) → (is_tp_type c.args.tp_type ≡ true) × (are_sheet_counts c.args.counts ≡ true)
yes c = both-yes c.args.tp_type c.args.counts (told c).0

-- the form is that of the type and counts
formed : (c : After-form_of) → c.form_of.result ≡ form_of (tp_type_of c.args.tp_type) c.args.counts
formed c = rw (told (goal.at.After-form_of c).In_ok-tp).1 at c.form_of.ensures

weights-are : (c : After-cells_of-cells) → c.form_of.result.channels * c.cells_of-cells.result ≡ weight_count_of c.args.tp_type c.args.counts
weights-are c = rw (formed (goal.at.After-cells_of-cells c).After-form_of ∙ form-is c.args.tp_type c.args.counts, c.cells_of-cells.ensures)

listed : (c : After-is_listing) → c.is_listing.result ≡ is_listed c.args.listing.now c.args.tp_type c.args.counts
unfolding is_listed
listed c = rw (formed (goal.at.After-is_listing c).After-form_of ∙ form-is c.args.tp_type c.args.counts, c.cells_of-cells.ensures) at c.is_listing.ensures

pub returns-then-num_weights-tested : goal.returns-then-num_weights-tested
unfolding first_no
returns-then-num_weights-tested c =
    let at = goal.at.returns-then-num_weights-tested c in
    rw ((yes at.In_ok-tp).0, (yes at.In_ok-tp).1, ne_eqb _ _ (rw (weights-are at.After-cells_of-cells) at c.if-num_weights-tested.true))

pub returns-then-not-is_listing : goal.returns-then-not-is_listing
unfolding first_no
returns-then-not-is_listing c =
    let at = goal.at.returns-then-not-is_listing c in
    rw (
      (yes at.In_ok-tp).0,
      (yes at.In_ok-tp).1,
      eq-eqb _ _ (rw (weights-are at.After-cells_of-cells) at c.if-num_weights-tested.false),
      eq-eqb _ _ (rw c.cells_of-cells.ensures at c.if-num_flags-cells.false),
      no_of (listed at.After-is_listing) c.if-not-is_listing.true,
    )

pub returns : goal.returns
unfolding first_no
returns c =
    let at = goal.at.returns c in
    rw (
      (yes at.In_ok-tp).0,
      (yes at.In_ok-tp).1,
      formed at.After-form_of,
      eq-eqb _ _ (rw (weights-are at.After-cells_of-cells) at c.if-num_weights-tested.false),
      eq-eqb _ _ (rw c.cells_of-cells.ensures at c.if-num_flags-cells.false),
      yes_of (listed at.After-is_listing) c.if-not-is_listing.false,
    )
