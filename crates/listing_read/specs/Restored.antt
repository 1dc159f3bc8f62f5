-- The record that stands in a text at the writer's own places, and question 22: the text is what the writer prints for that record.
use Rattle.std.specs.Prelude.{Bool, cond, List, [], ◌++◌, ℕ, ◌+◌, ◌*◌, ◌/◌, ◌%◌, ltb, Float, ℤ, pos, length}
use Rattle.list_laws.specs.Lists.{tabulate, rows}
use Rattle.text.specs.Pieces.{same}
use Rattle.listing.specs.Listings.{header, line_of, listing_of}
use Rattle.listing_line.specs.declared.Place.{Place}
use Rattle.listing_line.specs.Lines.{numbers_of, flag_here, weight_here}

-- the triplet, point and bands of entry e, as in the writer's `line_of`
unfoldable pub place_of : ℕ → ℕ → ℕ → ℕ → Place
place_of points bands1 bands2 e =
    record { triplet = e / bands2 / bands1 / points; point = e / bands2 / bands1 % points; b1 = e / bands2 % bands1; b2 = e % bands2 }

-- the place after a place
unfoldable pub next_place : ℕ → ℕ → ℕ → Place → Place
next_place points bands1 bands2 p =
    cond (ltb (p.b2 + 1) bands2) (record { triplet = p.triplet; point = p.point; b1 = p.b1; b2 = p.b2 + 1 })
    (cond (ltb (p.b1 + 1) bands1) (record { triplet = p.triplet; point = p.point; b1 = p.b1 + 1; b2 = 0 })
    (cond (ltb (p.point + 1) points) (record { triplet = p.triplet; point = p.point + 1; b1 = 0; b2 = 0 })
    (record { triplet = p.triplet + 1; point = 0; b1 = 0; b2 = 0 })))

module _ (points bands1 bands2 channels : ℕ) where
  -- the index at which the writer begins the line of entry e: how many bytes it prints before, whatever the record, here an empty one
  unfoldable pub line_start : ℕ → ℕ
  line_start e = length (header ++ rows e (line_of points bands1 bands2 channels [] []))

  -- the index of the flag of entry e: behind four numbers
  abbrev pub flag_place : ℕ → ℕ
  flag_place e = line_start e + length (numbers_of (place_of points bands1 bands2 e))

  -- the index of its weight of channel c: behind the flag and its tab, and seventeen bytes for each channel before
  abbrev pub weight_place : ℕ → ℕ → ℕ
  weight_place c e = flag_place e + 2 + 17 * c

  -- the flags that stand there, of so many entries
  unfoldable pub flags_in : ℕ → List ℕ → List ℤ
  flags_in cells text = tabulate cells (λ e. pos (flag_here text (flag_place e)))

  -- and the weights, channel after channel
  unfoldable pub weights_in : ℕ → List ℕ → List Float
  weights_in cells text = rows channels (λ c. tabulate cells (λ e. weight_here text (weight_place c e)))

  -- what the writer prints for that record
  abbrev pub listing_in : ℕ → List ℕ → List ℕ
  listing_in cells text = listing_of points bands1 bands2 channels (weights_in cells text) (flags_in cells text)

  -- Question 22, "are header, lines, field forms and order those of the writer": the text is what the writer prints for that record
  unfoldable pub is_listing : ℕ → List ℕ → Bool
  is_listing cells text = same text (listing_in cells text)
