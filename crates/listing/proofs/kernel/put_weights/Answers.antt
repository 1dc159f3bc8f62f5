-- `listing::kernel::put_weights` meets its contract.
use mathlib.Core.List.{[], ◌++◌, ◌∷◌}
use mathlib.Core.Path.{◌≡◌, sym}
use native.Mathlib.Omega.{arith}
use lib.ListN.{length}
use Rattle.listing.proofs.ListingLaws.{piece-next, piece-room, pieces-none, pieces_all}
use Rattle.listing.specs.Listings.{weight_of, weights_of}
use Rattle.text.specs.Spelled.{hexadecimal}
use Rattle.writing.proofs.WrittenLaws.{room_as, wrote_as}
use Rattle.listing.proofs.kernel.put_weights.Goals.{After-weight_end}
use Rattle.listing.proofs.kernel.put_weights.Goals as goal

spelled : (c : After-weight_end) → hexadecimal c.bits_of-bits.result ++ (c.weight_end.result ∷ []) ≡ weight_of c.args.sheet.now.weights.now (length c.args.sheet.now.flags.now) c.args.e c.args.sheet.now.channels c.loop-c.c
unfolding weight_of
spelled c = rw (c.bits_of-bits.ensures, c.weight_end.ensures)

pub loop-c-init : goal.loop-c-init
unfolding weights_of
loop-c-init c =
    pieces-none (weight_of c.args.sheet.now.weights.now (length c.args.sheet.now.flags.now) c.args.e c.args.sheet.now.channels) c.args.sheet.now.channels c.args.writer.now c.requires.room

pub put_bits-requires : goal.put_bits-requires
unfolding weights_of
put_bits-requires c =
    room_as c.loop-c.writer (sym (spelled (goal.at.put_bits-requires c).After-weight_end))
    (piece-room (weight_of c.args.sheet.now.weights.now (length c.args.sheet.now.flags.now) c.args.e c.args.sheet.now.channels) c.args.sheet.now.channels c.args.writer.now c.requires.room c.loop-c.c (omega arith) c.loop-c.invariant)

pub loop-c-preserved : goal.loop-c-preserved
unfolding weights_of
loop-c-preserved c =
    piece-next (weight_of c.args.sheet.now.weights.now (length c.args.sheet.now.flags.now) c.args.e c.args.sheet.now.channels) c.args.sheet.now.channels c.args.writer.now c.requires.room c.loop-c.c (omega arith) c.loop-c.invariant
    (wrote_as (spelled (goal.at.loop-c-preserved c).After-weight_end) c.put_bits.ensures)

pub returns : goal.returns
unfolding weights_of
returns c =
    pieces_all (weight_of c.args.sheet.now.weights.now (length c.args.sheet.now.flags.now) c.args.e c.args.sheet.now.channels) (omega arith) c.loop-c.invariant
