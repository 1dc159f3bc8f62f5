-- `study_counts::kernel::weight_count_ok` meets its contract.
use Prim.Native.Nat.{◌*◌}
use lib.IntN.{pos}
use lib.Signed.{mag}
use mathlib.Core.Bool.{true}
use mathlib.Core.Path.{◌∙◌, ◌≡◌}
use mir.Syntax.{w64}
use mir.ValLaws.{to_z-of_z}
use native.Mathlib.Omega.{arith}
use Rattle.list_laws.proofs.BoolLaws.{yes_of}
use Rattle.question_values.specs.TpTypes.{channels_of, is_tp_type}
use Rattle.question_values.specs.Counts.{are_counts}
use Rattle.triplet_types.specs.Types.{tp_type_of}
use Rattle.triplet_types.proofs.TypeLaws.{channels-named, type-given}
use Rattle.study_counts.proofs.CountLaws.{bands-small, one-small, two-small, three-small}
use Rattle.study_counts.specs.Counts.{few_weights, weight_count}
use Rattle.study_counts.proofs.kernel.weight_count_ok.Goals.{After-magnitude-2, After-num_channels-channels, Else-not-counts_ok, In-Ok}
use Rattle.study_counts.proofs.kernel.weight_count_ok.Goals as goal

-- 8 said yes, and gave the type
type-said : (c : In-Ok) → (is_tp_type c.args.tp_type ≡ true) × (c.in-Ok.tp ≡ tp_type_of c.args.tp_type)
type-said c = type-given _ _ (rw (to_z-of_z w64 c.args.tp_type c.ranges.tp_type, c.in-Ok.is) at c.try_from.ensures)

channels-said : (c : After-num_channels-channels) → c.num_channels-channels.result ≡ channels_of c.args.tp_type
channels-said c = c.num_channels-channels.ensures ∙ channels-named _ _ (type-said (goal.at.After-num_channels-channels c).In-Ok).1

-- the product of the bands, as the definition has it
bands-said : (c : After-magnitude-2) → c.magnitude.result * c.magnitude-2.result ≡ mag c.args.num_band1 * mag c.args.num_band2
bands-said c =
    let b1 : _ = rw (to_z-of_z w64 c.args.num_band1 c.ranges.num_band1) at c.magnitude.ensures in
    let b2 : _ = rw (to_z-of_z w64 c.args.num_band2 c.ranges.num_band2) at c.magnitude-2.ensures in
    rw (b1, b2)

-- past the tests 8 and 9, which said yes
counted : (c : Else-not-counts_ok) → are_counts c.args.num_band1 c.args.num_band2 (pos c.args.points) (pos c.args.triplets) ≡ true
counted c = yes_of (rw (to_z-of_z w64 c.args.num_band1 c.ranges.num_band1, to_z-of_z w64 c.args.num_band2 c.ranges.num_band2) at c.counts_ok.ensures) c.if-not-counts_ok.false

pub overflow_mul-bands : goal.overflow_mul-bands
overflow_mul-bands c =
    let at = goal.at.overflow_mul-bands c in
    omega (arith, bands-said at.After-magnitude-2, bands-small c.args.tp_type c.args.num_band1 c.args.num_band2 c.args.points c.args.triplets (counted at.Else-not-counts_ok))

pub overflow_mul-result : goal.overflow_mul-result
overflow_mul-result c =
    let at = goal.at.overflow_mul-result c in
    rw (channels-said at.After-num_channels-channels) (omega (arith, one-small c.args.tp_type c.args.num_band1 c.args.num_band2 c.args.points c.args.triplets (counted at.Else-not-counts_ok)))

pub overflow_mul-result-2 : goal.overflow_mul-result-2
overflow_mul-result-2 c =
    let at = goal.at.overflow_mul-result-2 c in
    rw (channels-said at.After-num_channels-channels) (omega (arith, two-small c.args.tp_type c.args.num_band1 c.args.num_band2 c.args.points c.args.triplets (counted at.Else-not-counts_ok)))

pub overflow_mul-result-3 : goal.overflow_mul-result-3
overflow_mul-result-3 c =
    let at = goal.at.overflow_mul-result-3 c in
    rw (channels-said at.After-num_channels-channels, bands-said at.After-magnitude-2) (omega (arith, three-small c.args.tp_type c.args.num_band1 c.args.num_band2 c.args.points c.args.triplets (counted at.Else-not-counts_ok)))

pub returns : goal.returns
unfolding few_weights weight_count
returns c =
    let at = goal.at.returns c in
    rw ((type-said at.In-Ok).0, counted at.Else-not-counts_ok, channels-said at.After-num_channels-channels, bands-said at.After-magnitude-2)
