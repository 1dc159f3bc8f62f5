-- `listing::kernel::put_weights` meets its contract.
use lib.ListN.{length}
use Rattle.list_laws.specs.Lists.{rows}
use Rattle.listing.specs.Listings.{weight_of}
use Rattle.writing.specs.Written.{Wrote}
use Rattle.listing.proofs.kernel.put_weights.Given as goal

abbrev pub invariant-loop-c : goal.invariant-loop-c
invariant-loop-c l = Wrote (rows l.c (weight_of l.sheet.weights.now (length l.sheet.flags.now) l.e l.sheet.channels)) l.initial.writer l.writer
