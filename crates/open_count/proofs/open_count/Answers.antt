-- `open_count::open_count` meets its contract.
use lib.ListN.{length}
use lib.Signed.{mag}
use mathlib.Core.Path.{◌∙◌, ◌≡◌}
use mir.Syntax.{w64}
use mir.ValLaws.{to_z-of_z}
use native.Mathlib.Omega.{arith}
use Rattle.list_laws.proofs.SignedLaws.{mag-given}
use Rattle.question_values.specs.TpTypes.{channels_of}
use Rattle.sheet_counts.proofs.SheetCountLaws.{all-cells-le}
use Rattle.ask.specs.Ask.{first_no}
use Rattle.ask.proofs.RefusalLaws.{given-is}
use Rattle.triplet_types.specs.Types.{tp_type_of}
use Rattle.triplet_types.proofs.TypeLaws.{channels-named}
use Rattle.open_count.specs.OpenCount.{open_questions}
use Rattle.open_count.proofs.OpenLaws.{Accepted, accepted}
use Rattle.open_count.proofs.open_count.Goals.{After-num_channels, After-magnitude, In_ok-tp}
use Rattle.open_count.proofs.open_count.Goals as goal

-- what the questions told
told : (c : In_ok-tp) → (first_no (open_questions c.args.tp_type c.args.counts (length c.args.weights.now) c.args.triplet) ≡ 0) × (c.in_ok-tp.tp ≡ tp_type_of c.args.tp_type)
told c = given-is _ _ _ (rw (to_z-of_z w64 c.args.tp_type c.ranges.tp_type, to_z-of_z w64 c.args.triplet c.ranges.triplet, c.in_ok-tp.was) at c.ask_open.ensures)

asked : (c : In_ok-tp) → Accepted c.args.tp_type c.args.counts (length c.args.weights.now) c.args.triplet
asked c =
    accepted c.args.tp_type c.args.counts (length c.args.weights.now) c.args.triplet (told c).0

channels-are : (c : After-num_channels) → c.num_channels.result ≡ channels_of c.args.tp_type
channels-are c =
    c.num_channels.ensures ∙ channels-named _ _ (told (goal.at.After-num_channels c).In_ok-tp).1

triplet-is : (c : After-magnitude) → c.magnitude.result ≡ mag c.args.triplet
triplet-is c =
    mag-given c.args.triplet c.ranges.triplet c.magnitude.ensures

pub cells_of-requires : goal.cells_of-requires
cells_of-requires c = (asked (goal.at.cells_of-requires c).In_ok-tp).counted

pub invariant_of-sheet : goal.invariant_of-sheet
invariant_of-sheet c =
    rw (c.cells_of.ensures, channels-are (goal.at.invariant_of-sheet c).After-num_channels) (record { lengths = (asked (goal.at.invariant_of-sheet c).In_ok-tp).weighed })

pub cells_per_triplet-size-requires : goal.cells_per_triplet-size-requires
cells_per_triplet-size-requires c = (asked (goal.at.cells_per_triplet-size-requires c).In_ok-tp).counted

pub overflow_mul-magnitude : goal.overflow_mul-magnitude
overflow_mul-magnitude c = let y = asked (goal.at.overflow_mul-magnitude c).In_ok-tp in
    rw (triplet-is (goal.at.overflow_mul-magnitude c).After-magnitude, c.cells_per_triplet-size.ensures) (omega (arith, y.room, all-cells-le _ y.counted))

pub open_from-requires : goal.open_from-requires
open_from-requires c =
    rw (triplet-is (goal.at.open_from-requires c).After-magnitude, c.cells_per_triplet-size.ensures, c.cells_of.ensures) (asked (goal.at.open_from-requires c).In_ok-tp).room

pub returns : goal.returns
returns c =
    let at = goal.at.returns c in
    let e : _ = rw (triplet-is at.After-magnitude, c.cells_per_triplet-size.ensures, c.cells_of.ensures, channels-are at.After-num_channels) at c.open_from.ensures in
    rw ((told at.In_ok-tp).0, e)
