-- Work areas that nothing was written to.
use Rattle.std.specs.Prelude.{◌≡◌, replicate}
use Rattle.ieee_laws.specs.Zeros.{zero_f}
use Rattle.triplet_channels.specs.declared.Channel.{Channel}
use Rattle.triplet_piece.specs.declared.WorkAreas.{WorkAreas}

-- a channel of zeros
abbrev pub IsZeros : Channel → Type 0
IsZeros c = (c.values ≡ replicate 384 zero_f) × (c.places ≡ replicate 96 0)

-- all areas hold zeros
abbrev pub AreZeros : WorkAreas → Type 0
AreZeros w =
    ((w.frequencies1 ≡ replicate 384 zero_f) × (w.frequencies2 ≡ replicate 384 zero_f))
    × (IsZeros w.channels.first × (IsZeros w.channels.second × IsZeros w.channels.third))
