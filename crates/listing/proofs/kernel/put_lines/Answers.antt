-- `listing::kernel::put_lines` meets its contract.
use native.Mathlib.Omega.{arith}
use lib.ListN.{length}
use Rattle.listing.proofs.ListingLaws.{piece-next, piece-room, pieces-none, pieces_all}
use Rattle.listing.specs.Listings.{lines_of}
use Rattle.listing.specs.Sheets.{line_in}
use Rattle.listing.proofs.kernel.put_lines.Goals as goal

pub loop-e-init : goal.loop-e-init
unfolding lines_of
loop-e-init c = pieces-none (line_in c.args.sheet.now) (length c.args.sheet.now.flags.now) c.args.writer.now c.requires

pub put_line-requires-clause-room : goal.put_line-requires-clause-room
unfolding lines_of
put_line-requires-clause-room c =
    piece-room (line_in c.args.sheet.now) (length c.args.sheet.now.flags.now) c.args.writer.now c.requires c.loop-e.e (omega arith) c.loop-e.invariant

pub loop-e-preserved : goal.loop-e-preserved
unfolding lines_of
loop-e-preserved c =
    piece-next (line_in c.args.sheet.now) (length c.args.sheet.now.flags.now) c.args.writer.now c.requires c.loop-e.e (omega arith) c.loop-e.invariant c.put_line.ensures

pub returns : goal.returns
unfolding lines_of
returns c = pieces_all (line_in c.args.sheet.now) (omega arith) c.loop-e.invariant
