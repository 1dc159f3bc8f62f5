-- `averaging::ask_averaging` meets its contract: what each test found, in order.
use mathlib.Core.Path.{◌≡◌, ap, ◌∙◌}
use mathlib.Core.Bool.{true, ◌&&◌}
use Prim.Native.Nat.{ℕ, ◌*◌}
use borrow.Author.Rules.{rules}
use lib.Dec.{eqb}
use lib.IntN.{pos}
use lib.ListN.{length}
use lib.Signed.{mag}
use mir.Syntax.{w64}
use mir.ValLaws.{to_z-of_z}
use Rattle.list_laws.proofs.SignedLaws.{mag-given}
use Rattle.list_laws.proofs.BoolLaws.{yes_of, no_of}
use Rattle.ask.specs.Ask.{first_no}
use Rattle.triplet_types.specs.Types.{tp_type_of}
use Rattle.triplet_types.proofs.TypeLaws.{type-given, channels-named}
use Rattle.question_values.specs.Averages.{are_degenerate_ids}
use Rattle.question_values.specs.Counts.{are_counts, cell_count}
use Rattle.question_values.specs.TpTypes.{is_tp_type, channels_of}
use Rattle.averaging.proofs.ask_averaging.Goals.{After-num_channels, After-degenerate_ids_ok-2, After-magnitude, After-magnitude-bands, After-signed_counts_ok, In_ok-tp, Else-not-degenerate_ids_ok, Else-not-iw-all, Else-not-signed_counts_ok}
use Rattle.averaging.proofs.ask_averaging.Goals as goal

told-8 : (c : In_ok-tp) → (is_tp_type c.args.averaging.tp_type ≡ true) × (c.in_ok-tp.tp ≡ tp_type_of c.args.averaging.tp_type)
told-8 c =
    type-given _ _ (rw (to_z-of_z w64 c.args.averaging.tp_type (search rules), c.in_ok-tp.was) at c.try_from.ensures)

yes-8 : (c : In_ok-tp) → is_tp_type c.args.averaging.tp_type ≡ true
yes-8 c = (told-8 c).0

told-9 : (c : After-signed_counts_ok) → c.signed_counts_ok.result ≡ are_counts c.args.averaging.num_band c.args.averaging.num_band c.args.averaging.num_band0 (pos 1)
told-9 c =
    let bands = to_z-of_z w64 c.args.averaging.num_band (search rules) in
    c.signed_counts_ok.ensures ∙ (λ i. are_counts (bands i) (bands i) (to_z-of_z w64 c.args.averaging.num_band0 (search rules) i) (pos 1))

yes-9 : (c : Else-not-signed_counts_ok) → are_counts c.args.averaging.num_band c.args.averaging.num_band c.args.averaging.num_band0 (pos 1) ≡ true
yes-9 c = yes_of (told-9 (goal.at.Else-not-signed_counts_ok c).After-signed_counts_ok) c.if-not-signed_counts_ok.false

bands-are : (c : After-magnitude-bands) → c.magnitude-bands.result ≡ mag c.args.averaging.num_band
bands-are c = mag-given c.args.averaging.num_band (search rules) c.magnitude-bands.ensures

points-are : (c : After-magnitude) → c.magnitude.result ≡ mag c.args.averaging.num_band0
points-are c = mag-given c.args.averaging.num_band0 (search rules) c.magnitude.ensures

channels-are : (c : After-num_channels) → c.num_channels.result ≡ channels_of c.args.averaging.tp_type
channels-are c = c.num_channels.ensures ∙ channels-named _ _ (told-8 (goal.at.After-num_channels c).In_ok-tp).1

told-12 : (c : After-num_channels) → let size = c.magnitude.result * (c.magnitude-bands.result * c.magnitude-bands.result) in
    (eqb (length c.args.iw.now) (c.num_channels.result * size) && eqb (length c.args.iw_zero.now) size)
    ≡ (eqb (length c.args.iw.now) (channels_of c.args.averaging.tp_type * cell_count c.args.averaging.num_band0 c.args.averaging.num_band c.args.averaging.num_band)
    && eqb (length c.args.iw_zero.now) (cell_count c.args.averaging.num_band0 c.args.averaging.num_band c.args.averaging.num_band))
told-12 c = rw (channels-are c, points-are (goal.at.After-num_channels c).After-magnitude, bands-are (goal.at.After-num_channels c).After-magnitude-bands)

yes-12 : (c : Else-not-iw-all) → (eqb (length c.args.iw.now) (channels_of c.args.averaging.tp_type * cell_count c.args.averaging.num_band0 c.args.averaging.num_band c.args.averaging.num_band)
    && eqb (length c.args.iw_zero.now) (cell_count c.args.averaging.num_band0 c.args.averaging.num_band c.args.averaging.num_band)) ≡ true
yes-12 c = yes_of (told-12 (goal.at.Else-not-iw-all c).After-num_channels) c.if-not-iw-all.false

told-17 : (c : After-degenerate_ids_ok-2) → (c.degenerate_ids_ok.result && c.degenerate_ids_ok-2.result)
    ≡ (are_degenerate_ids (mag c.args.averaging.num_band) c.args.averaging.degenerate_ids1.now && are_degenerate_ids (mag c.args.averaging.num_band) c.args.averaging.degenerate_ids2.now)
told-17 c =
    let same = bands-are (goal.at.After-degenerate_ids_ok-2 c).After-magnitude-bands in
    let first = c.degenerate_ids_ok.ensures ∙ ap (λ (n : ℕ). are_degenerate_ids n c.args.averaging.degenerate_ids1.now) same in
    let second = c.degenerate_ids_ok-2.ensures ∙ ap (λ (n : ℕ). are_degenerate_ids n c.args.averaging.degenerate_ids2.now) same in
    rw (first, second)

yes-17 : (c : Else-not-degenerate_ids_ok) → (are_degenerate_ids (mag c.args.averaging.num_band) c.args.averaging.degenerate_ids1.now && are_degenerate_ids (mag c.args.averaging.num_band) c.args.averaging.degenerate_ids2.now) ≡ true
yes-17 c = yes_of (told-17 (goal.at.Else-not-degenerate_ids_ok c).After-degenerate_ids_ok-2) c.if-not-degenerate_ids_ok.false

pub returns-then-not-iw-all : goal.returns-then-not-iw-all
unfolding first_no
returns-then-not-iw-all c = rw (yes-8 (goal.at.returns-then-not-iw-all c).In_ok-tp, yes-9 (goal.at.returns-then-not-iw-all c).Else-not-signed_counts_ok, no_of (told-12 (goal.at.returns-then-not-iw-all c).After-num_channels) c.if-not-iw-all.true)

pub returns-then-not-degenerate_ids_ok : goal.returns-then-not-degenerate_ids_ok
unfolding first_no
returns-then-not-degenerate_ids_ok c = rw (yes-8 (goal.at.returns-then-not-degenerate_ids_ok c).In_ok-tp, yes-9 (goal.at.returns-then-not-degenerate_ids_ok c).Else-not-signed_counts_ok, yes-12 (goal.at.returns-then-not-degenerate_ids_ok c).Else-not-iw-all, no_of (told-17 (goal.at.returns-then-not-degenerate_ids_ok c).After-degenerate_ids_ok-2) c.if-not-degenerate_ids_ok.true)

pub returns-then-not-weights_ok : goal.returns-then-not-weights_ok
unfolding first_no
returns-then-not-weights_ok c = rw (yes-8 (goal.at.returns-then-not-weights_ok c).In_ok-tp, yes-9 (goal.at.returns-then-not-weights_ok c).Else-not-signed_counts_ok, yes-12 (goal.at.returns-then-not-weights_ok c).Else-not-iw-all, yes-17 (goal.at.returns-then-not-weights_ok c).Else-not-degenerate_ids_ok, no_of c.weights_ok.ensures c.if-not-weights_ok.true)

pub returns : goal.returns
unfolding first_no
returns c = rw (yes-8 (goal.at.returns c).In_ok-tp, yes-9 (goal.at.returns c).Else-not-signed_counts_ok, yes-12 (goal.at.returns c).Else-not-iw-all, yes-17 (goal.at.returns c).Else-not-degenerate_ids_ok, yes_of c.weights_ok.ensures c.if-not-weights_ok.false, (told-8 (goal.at.returns c).In_ok-tp).1)
