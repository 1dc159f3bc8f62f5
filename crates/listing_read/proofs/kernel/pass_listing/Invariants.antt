-- `listing_read::kernel::pass_listing` meets its contract: before each turn the header and the lines before were passed over.
use mathlib.Core.List.{◌++◌}
use mathlib.Core.Path.{◌≡◌}
use Rattle.list_laws.specs.Lists.{rows}
use Rattle.std.specs.Prelude.{Some}
use Rattle.listing.specs.Listings.{header}
use Rattle.reading.specs.Passes.{Passes}
use Rattle.listing_read.specs.Restored.{place_of}
use Rattle.listing_read.proofs.RestoredLaws.{lines_in}
use Rattle.listing_read.proofs.kernel.pass_listing.Given as goal

abbrev pub invariant-loop-entry : goal.invariant-loop-entry
invariant-loop-entry l =
    (l.place ≡ place_of l.form.points l.form.bands1 l.form.bands2 l._entry)
    × Passes (header ++ rows l._entry (lines_in l.form.points l.form.bands1 l.form.bands2 l.form.channels l.cells l.fn.reader.text.now)) l.fn.reader l.reader (Some (tt {0}))
