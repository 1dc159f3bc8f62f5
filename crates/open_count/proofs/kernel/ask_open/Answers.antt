-- `open_count::kernel::ask_open` meets its contract: 8 and 9 first, then 12 and 14.
use borrow.Author.Rules.{rules}
use borrow.Author.Tests.{eq-eqb, ne_eqb}
use lib.Signed.{mag}
use mathlib.Core.Bool.{true}
use mathlib.Core.Path.{◌≡◌, ◌∙◌}
use mir.Syntax.{w64}
use mir.ValLaws.{to_z-of_z}
use native.Mathlib.Omega.{arith}
use Prim.Native.Nat.{◌*◌}
use Rattle.list_laws.proofs.BoolLaws.{no_of, yes_of}
use Rattle.list_laws.proofs.SignedLaws.{back}
use Rattle.list_laws.specs.Signed.{is_below}
use Rattle.ask.proofs.RefusalLaws.{given-is}
use Rattle.ask.specs.Ask.{first_no}
use Rattle.sheet_counts.proofs.SheetCountLaws.{both-yes, weights-le}
use Rattle.question_values.specs.TpTypes.{is_tp_type}
use Rattle.triplet_types.specs.Types.{tp_type_of}
use Rattle.triplet_types.proofs.TypeLaws.{channels-named}
use Rattle.sheet_counts.specs.SheetCounts.{are_sheet_counts, count_questions, weight_count_of}
use Rattle.open_count.proofs.kernel.ask_open.Goals.{After-cells_of, After-is_below, In_ok-tp}
use Rattle.open_count.proofs.kernel.ask_open.Goals as goal

told : (c : In_ok-tp) → (first_no (count_questions c.args.tp_type c.args.counts) ≡ 0) × (c.in_ok-tp.tp ≡ tp_type_of c.args.tp_type)
told c = given-is _ _ _ (rw (to_z-of_z w64 c.args.tp_type c.ranges.tp_type, c.in_ok-tp.was) at c.ask_counts.ensures)

yes : (c : In_ok-tp) → (is_tp_type c.args.tp_type ≡ true) × (are_sheet_counts c.args.counts ≡ true)
yes c = both-yes c.args.tp_type c.args.counts (told c).0

weights-are : (c : After-cells_of) → c.num_channels.result * c.cells_of.result ≡ weight_count_of c.args.tp_type c.args.counts
weights-are c =
    rw (c.num_channels.ensures ∙ channels-named _ _ (told (goal.at.After-cells_of c).In_ok-tp).1, c.cells_of.ensures)

on-sheet : (c : After-is_below) → c.is_below.result ≡ is_below c.args.triplet (mag c.args.counts.num_triplets)
on-sheet c =
    let n : _ = rw (back c.args.counts.num_triplets (search rules)) at c.magnitude.ensures in
    rw (to_z-of_z w64 c.args.triplet c.ranges.triplet, n) at c.is_below.ensures

pub overflow_mul-num_channels : goal.overflow_mul-num_channels
overflow_mul-num_channels c =
    rw (weights-are (goal.at.overflow_mul-num_channels c).After-cells_of) (omega (arith, weights-le c.args.counts (yes (goal.at.overflow_mul-num_channels c).In_ok-tp).1 c.args.tp_type))

pub returns-then-num_weights-num_channels : goal.returns-then-num_weights-num_channels
unfolding first_no
returns-then-num_weights-num_channels c =
    let y = yes (goal.at.returns-then-num_weights-num_channels c).In_ok-tp in
    rw (y.0, y.1, ne_eqb _ _ (rw (weights-are (goal.at.returns-then-num_weights-num_channels c).After-cells_of) at c.if-num_weights-num_channels.true))

pub returns-then-not-is_below : goal.returns-then-not-is_below
unfolding first_no
returns-then-not-is_below c =
    let y = yes (goal.at.returns-then-not-is_below c).In_ok-tp in
    rw (y.0, y.1, eq-eqb _ _ (rw (weights-are (goal.at.returns-then-not-is_below c).After-cells_of) at c.if-num_weights-num_channels.false), no_of (on-sheet (goal.at.returns-then-not-is_below c).After-is_below) c.if-not-is_below.true)

pub returns : goal.returns
unfolding first_no
returns c =
    let y = yes (goal.at.returns c).In_ok-tp in
    rw (y.0, y.1, eq-eqb _ _ (rw (weights-are (goal.at.returns c).After-cells_of) at c.if-num_weights-num_channels.false), yes_of (on-sheet (goal.at.returns c).After-is_below) c.if-not-is_below.false, (told (goal.at.returns c).In_ok-tp).1)
