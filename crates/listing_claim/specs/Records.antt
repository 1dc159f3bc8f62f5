-- A record as the writer's caller holds it: weights and flags of a sheet.
use Rattle.std.specs.Prelude.{◌≡◌, List, ◌⊎◌, ℕ, ◌*◌, ◌<◌, T, Float, ℤ, pos, length, get_or}
use Rattle.std.specs.Float.{nan, binary64}
use Rattle.std.specs.Float.Ieee.{fits}
use Rattle.std.specs.Int.Signed.{mag}
use Rattle.list_laws.specs.Lists.{at}
use Rattle.question_values.specs.TpTypes.{channels_of}
use Rattle.sheet_counts.specs.declared.Counts.{Counts}
use Rattle.sheet_counts.specs.SheetCounts.{cells_of}
use Rattle.listing.specs.Listings.{listing_of}

-- a flag that the Rust sets: 0 or 1
abbrev pub IsFlag : ℤ → Type 0
IsFlag z = (z ≡ pos 0) ⊎ (z ≡ pos 1)

-- a float of 64 bits: every f64 in a buffer is one, the NaN too
abbrev pub IsDouble : Float → Type 0
IsDouble x = T (fits binary64 x)

-- a record of so many channels and entries
pub record IsRecord (channels cells : ℕ) (weights : List Float) (flags : List ℤ) : Type 0 where
  pub many-flags : length flags ≡ cells
  pub many-weights : length weights ≡ channels * cells
  pub each-flag : (e : ℕ) → e < cells → IsFlag (at flags e)
  pub each-weight : (i : ℕ) → i < channels * cells → IsDouble (get_or weights i nan)

-- a record of a sheet
abbrev pub IsRecordOf : ℤ → Counts → List Float → List ℤ → Type 0
IsRecordOf type c weights flags = IsRecord (channels_of type) (cells_of c) weights flags

-- what the writer prints for it
unfoldable pub printed : ℤ → Counts → List Float → List ℤ → List ℕ
printed type c weights flags = listing_of (mag c.num_band0) (mag c.num_band1) (mag c.num_band2) (channels_of type) weights flags
