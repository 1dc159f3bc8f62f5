-- What stands in a line of a listing, and the line that the writer prints for it.
use Rattle.std.specs.Prelude.{Option, Some, None, cond, List, ◌++◌, ℕ, ◌+◌, ◌*◌, eqb, Float, length, get_or, take, drop}
use Rattle.std.specs.Float.{nan, binary64}
use Rattle.std.specs.Float.Ieee.{of_bits}
use Rattle.list_laws.specs.Lists.{rows}
use Rattle.text.specs.Fields.{bits}
use Rattle.listing.specs.Listings.{number, weight_end, weight_text}
use Rattle.listing_line.specs.declared.Place.{Place}

-- triplet, point and bands, a tab after each, as the writer begins a line
unfoldable pub numbers_of : Place → List ℕ
numbers_of p = number p.triplet 9 ++ number p.point 9 ++ number p.b1 9 ++ number p.b2 9

-- the flag at an index: 0 where the digit 0 (the byte 48) stands, 1 where any other byte does
unfoldable pub flag_here : List ℕ → ℕ → ℕ
flag_here text at = cond (eqb (get_or text at 0) 48) 0 1

-- the float of a bit pattern; a NaN where there is none
abbrev pub float_of : Option ℕ → Float
float_of (Some pattern) = of_bits binary64 pattern
float_of None = nan

-- the weight at an index: the float whose bits the sixteen digits spell
unfoldable pub weight_here : List ℕ → ℕ → Float
weight_here text at = float_of (bits (take 16 (drop at text)))

-- what the writer prints for the weights from an index on: sixteen digits and a byte for each channel
unfoldable pub weights_here : ℕ → List ℕ → ℕ → List ℕ
weights_here channels text at = rows channels (λ c. weight_text (weight_here text (at + 17 * c)) (weight_end channels c))

-- the line that the writer prints for the flag and the weights that stand in the text, where the line begins at an index
unfoldable pub line_here : Place → ℕ → List ℕ → ℕ → List ℕ
line_here p channels text at =
    numbers_of p
    ++ number (flag_here text (at + length (numbers_of p))) 9
    ++ weights_here channels text (at + length (numbers_of p) + 2)
