-- A sheet as it is listed.
use Rattle.std.specs.Prelude.{List, ℕ, length}
use Rattle.listing.specs.declared.kernel.sheet.Sheet.{Sheet}
use Rattle.listing.specs.Listings.{weights_of, line_of, lines_of, listing_of}

-- the weights of an entry
abbrev pub weights_in : Sheet → ℕ → List ℕ
weights_in s e = weights_of s.weights.now (length s.flags.now) e s.channels

-- the line of an entry
abbrev pub line_in : Sheet → ℕ → List ℕ
line_in s e = line_of s.points s.bands1 s.bands2 s.channels s.weights.now s.flags.now e

-- one line an entry in the order of the flags
abbrev pub lines_in : Sheet → List ℕ
lines_in s = lines_of s.points s.bands1 s.bands2 s.channels s.weights.now s.flags.now

-- the listing, whole
abbrev pub sheet_listing : Sheet → List ℕ
sheet_listing s = listing_of s.points s.bands1 s.bands2 s.channels s.weights.now s.flags.now
