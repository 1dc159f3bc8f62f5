-- `averaging::average_weights_over_degenerate_sets` meets its contract.
use mathlib.Core.Path.{◌≡◌, sym, ◌∙◌}
use Prim.Native.Nat.{◌*◌}
use borrow.Author.Rules.{rules}
use native.Mathlib.Omega.{arith}
use lib.Signed.{mag}
use Rattle.list_laws.proofs.SignedLaws.{mag-given}
use Rattle.question_values.specs.TpTypes.{channels_of}
use Rattle.ask.proofs.RefusalLaws.{given-is}
use Rattle.triplet_types.specs.Types.{tp_type_of}
use Rattle.triplet_types.proofs.TypeLaws.{channels-named}
use Rattle.averaging.specs.Lent.{no_in}
use Rattle.averaging.proofs.AnswerLaws.{Accepted, accepted}
use Rattle.averaging.proofs.average_weights_over_degenerate_sets.Goals.{After-num_channels, After-magnitude-bands, After-magnitude-points, In_ok-tp}
use Rattle.averaging.proofs.average_weights_over_degenerate_sets.Goals as goal

told : (c : In_ok-tp) → (no_in c.args.iw.now c.args.iw_zero.now c.args.averaging ≡ 0) × (c.in_ok-tp.tp ≡ tp_type_of c.args.averaging.tp_type)
told c = given-is _ _ _ (rw c.in_ok-tp.was at c.ask_averaging.ensures)

-- no question refuses
facts : (c : In_ok-tp) → Accepted c.args.iw.now c.args.iw_zero.now c.args.averaging.degenerate_ids1.now c.args.averaging.degenerate_ids2.now c.args.averaging.num_band0 c.args.averaging.num_band c.args.averaging.tp_type
facts c =
    accepted c.args.iw.now c.args.iw_zero.now c.args.averaging.degenerate_ids1.now c.args.averaging.degenerate_ids2.now c.args.averaging.num_band0 c.args.averaging.num_band c.args.averaging.tp_type
    (told c).0

bands-are : (c : After-magnitude-bands) → c.magnitude-bands.result ≡ mag c.args.averaging.num_band
bands-are c = mag-given c.args.averaging.num_band (search rules) c.magnitude-bands.ensures

points-are : (c : After-magnitude-points) → c.magnitude-points.result ≡ mag c.args.averaging.num_band0
points-are c = mag-given c.args.averaging.num_band0 (search rules) c.magnitude-points.ensures

channels-are : (c : After-num_channels) → c.num_channels.result ≡ channels_of c.args.averaging.tp_type
channels-are c = c.num_channels.ensures ∙ channels-named _ _ (told (goal.at.After-num_channels c).In_ok-tp).1

pub average_points-requires-clause-m_len : goal.average_points-requires-clause-m_len
average_points-requires-clause-m_len c =
    let at = goal.at.average_points-requires-clause-m_len c in
    let f = facts at.In_ok-tp in
    let b = bands-are at.After-magnitude-bands in
    (f.weights ∙ sym (λ i. channels-are at.After-num_channels i * points-are at.After-magnitude-points i * (b i * b i)), omega (arith, b, f.counts))

pub average_points-requires-2-clause-m_len : goal.average_points-requires-2-clause-m_len
average_points-requires-2-clause-m_len c =
    let at = goal.at.average_points-requires-2-clause-m_len c in
    let f = facts at.In_ok-tp in
    let b = bands-are at.After-magnitude-bands in
    (f.flags ∙ sym (λ i. points-are at.After-magnitude-points i * (b i * b i)), omega (arith, b, f.counts))

pub returns-clause-iw_after : goal.returns-clause-iw_after
returns-clause-iw_after c =
    let at = goal.at.returns-clause-iw_after c in
    let e : _ = rw (bands-are at.After-magnitude-bands, points-are at.After-magnitude-points, channels-are at.After-num_channels) at c.average_points.ensures in
    rw (told at.In_ok-tp).0 e
