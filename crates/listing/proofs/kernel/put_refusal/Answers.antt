-- `listing::kernel::put_refusal` meets its contract.
use native.Mathlib.Omega.{arith}
use Rattle.listing.proofs.ListingLaws.{refusal-length}
use Rattle.listing.specs.Listings.{number, refusal_of}
use Rattle.writing.proofs.WrittenLaws.{room-next, wrote-both}
use Rattle.listing.proofs.kernel.put_refusal.Goals as goal

pub put_slice-requires : goal.put_slice-requires
put_slice-requires c = omega (arith, refusal-length c.args.number, c.requires)

pub put_decimal-requires : goal.put_decimal-requires
unfolding refusal_of
put_decimal-requires c = room-next _ (number c.args.number 10) c.args.writer.now c.requires c.put_slice.ensures

pub returns : goal.returns
unfolding refusal_of
returns c = wrote-both _ (number c.args.number 10) c.args.writer.now c.requires c.put_slice.ensures c.put_decimal.ensures
