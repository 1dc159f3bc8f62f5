-- The form of a listing: the counts of its lines.
use Rattle.std.specs.Prelude.{◌<◌}
use Rattle.std.specs.Int.Signed.{mag}
use Rattle.triplet_types.specs.declared.TpType.{TpType}
use Rattle.triplet_types.specs.Types.{channel_count}
use Rattle.sheet_counts.specs.declared.Counts.{Counts}
use Rattle.listing_read.specs.declared.Form.{Form}

-- no count of points or bands is 0
abbrev pub IsForm : Form → Type 0
IsForm f = (0 < f.points) × (0 < f.bands1) × (0 < f.bands2)

-- the form of a type and counts
abbrev pub form_of : TpType → Counts → Form
form_of type c = record { points = mag c.num_band0; bands1 = mag c.num_band1; bands2 = mag c.num_band2; channels = channel_count type }
