-- `listing::kernel::put_listing` meets its contract.
use Rattle.listing.specs.Listings.{header, listing_of}
use Rattle.listing.specs.Sheets.{lines_in}
use Rattle.writing.proofs.WrittenLaws.{room-first, room-next, wrote-both}
use Rattle.listing.proofs.kernel.put_listing.Goals as goal

pub put_slice-requires : goal.put_slice-requires
unfolding listing_of header
put_slice-requires c = room-first header (lines_in c.args.sheet.now) c.args.writer.now c.requires

pub put_lines-requires : goal.put_lines-requires
unfolding listing_of header
put_lines-requires c = room-next _ (lines_in c.args.sheet.now) c.args.writer.now c.requires c.put_slice.ensures

pub returns : goal.returns
unfolding listing_of header
returns c = wrote-both _ (lines_in c.args.sheet.now) c.args.writer.now c.requires c.put_slice.ensures c.put_lines.ensures
