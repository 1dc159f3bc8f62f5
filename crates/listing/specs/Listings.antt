-- The listing: its header, one line an entry in the order of the flags, and the line of a refusal.
use Rattle.std.specs.Prelude.{cond, List, [], ◌∷◌, ◌++◌, ℕ, ◌+◌, ◌*◌, ◌/◌, ◌%◌, eqb, ◌<◌, ◌≡◌, Float, ℤ, pos, length, get_or}
use Rattle.std.specs.Float.{nan, binary64}
use Rattle.std.specs.Float.Ieee.{to_bits}
use Rattle.list_laws.specs.Lists.{at, rows}
use Rattle.list_laws.specs.Signed.{eq_z}
use Rattle.text.specs.Spelled.{decimal, hexadecimal}

-- "the header, the same for each type": "triplet", "point", "b1", "b2", "flag", "w", parted by tabs, and a newline
unfoldable pub header : List ℕ
header = 116 ∷ 114 ∷ 105 ∷ 112 ∷ 108 ∷ 101 ∷ 116 ∷ 9 ∷ 112 ∷ 111 ∷ 105 ∷ 110 ∷ 116 ∷ 9 ∷ 98 ∷ 49 ∷ 9 ∷ 98 ∷ 50 ∷ 9 ∷ 102 ∷ 108 ∷ 97 ∷ 103 ∷ 9 ∷ 119 ∷ 10 ∷ []

-- no count of points or bands is 0, and each entry has a weight in each channel
abbrev pub IsListable : ℕ → ℕ → ℕ → ℕ → List Float → List ℤ → Type 0
IsListable points bands1 bands2 channels weights flags = (0 < points) × (0 < bands1) × (0 < bands2) × (length weights ≡ channels * length flags)

-- a number, and a byte after it
abbrev pub number : ℕ → ℕ → List ℕ
number n end = decimal n ++ (end ∷ [])

-- "(triplet, point, bands, flag, ..)": a tab after each
unfoldable pub front_of : ℕ → ℕ → ℕ → ℕ → ℕ → List ℕ
front_of t p b1 b2 flag = number t 9 ++ number p 9 ++ number b1 9 ++ number b2 9 ++ number flag 9

-- what stands after a channel's weight: a newline after the last, a tab after any other
unfoldable pub weight_end : ℕ → ℕ → ℕ
weight_end channels c = cond (eqb (c + 1) channels) 10 9

-- a weight as it is written: "16 hexadecimal digits of their bits", and a byte after it
abbrev pub weight_text : Float → ℕ → List ℕ
weight_text weight end = hexadecimal (to_bits binary64 weight) ++ (end ∷ [])

-- the weight of an entry's channel, and the byte after it; weights lie by channel, then as the flags
unfoldable pub weight_of : List Float → ℕ → ℕ → ℕ → ℕ → List ℕ
weight_of weights total e channels c = weight_text (get_or weights (c * total + e) nan) (weight_end channels c)

-- "then channels in order"
unfoldable pub weights_of : List Float → ℕ → ℕ → ℕ → List ℕ
weights_of weights total e channels = rows channels (weight_of weights total e channels)

-- a flag as it is written: 0, or 1 for any other
unfoldable pub flag_at : List ℤ → ℕ → ℕ
flag_at flags e = cond (eq_z (at flags e) (pos 0)) 0 1

-- the line of an entry; flags lie by triplet, point, b1, b2
unfoldable pub line_of : ℕ → ℕ → ℕ → ℕ → List Float → List ℤ → ℕ → List ℕ
line_of points bands1 bands2 channels weights flags e =
    front_of (e / bands2 / bands1 / points) (e / bands2 / bands1 % points) (e / bands2 % bands1) (e % bands2) (flag_at flags e)
    ++ weights_of weights (length flags) e channels

-- "one line an entry in the order of the flags"
unfoldable pub lines_of : ℕ → ℕ → ℕ → ℕ → List Float → List ℤ → List ℕ
lines_of points bands1 bands2 channels weights flags = rows (length flags) (line_of points bands1 bands2 channels weights flags)

-- "Output, whole"
unfoldable pub listing_of : ℕ → ℕ → ℕ → ℕ → List Float → List ℤ → List ℕ
listing_of points bands1 bands2 channels weights flags = header ++ lines_of points bands1 bands2 channels weights flags

-- "`refused`, a tab and the number", and a newline
unfoldable pub refusal_of : ℕ → List ℕ
refusal_of n = (114 ∷ 101 ∷ 102 ∷ 117 ∷ 115 ∷ 101 ∷ 100 ∷ 9 ∷ []) ++ number n 10
