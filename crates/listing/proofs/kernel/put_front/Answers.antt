-- `listing::kernel::put_front` meets its contract.
use Rattle.listing.proofs.ListingLaws.{wrote-five}
use Rattle.listing.specs.Listings.{front_of, number}
use Rattle.listing.proofs.kernel.put_front.Goals as goal

pub returns : goal.returns
unfolding front_of
returns c =
    wrote-five (number c.args.t 9) (number c.args.p 9) (number c.args.b1 9) (number c.args.b2 9) (number c.args.flag 9) c.args.writer.now c.requires c.put_decimal.ensures c.put_decimal-2.ensures c.put_decimal-3.ensures c.put_decimal-4.ensures c.put_decimal-5.ensures
