-- The walk from set to set of an id list.
use Rattle.std.specs.Prelude.{◌≡◌, ℕ, ◌-◌, ◌≤◌, ◌<◌, length, MatchOption}
use Rattle.std.specs.declared.option.Option.{Option}
use Rattle.std.specs.declared.ops.Range.{Range}
use Rattle.degenerate_sets.specs.declared.kernel.sets.Sets.{Sets}
use Rattle.degenerate_sets.specs.Sets.{starts_at, end_of}

-- the places from the walk's start on
abbrev pub places_left : Sets → ℕ
places_left s = length s.ids.now - s.start

-- the set that starts at s, and ends where the next one starts
abbrev pub IsNext : Sets → Sets → Range ℕ → Type 0
IsNext s t set =
    (s.start < length s.ids.now)
    × (set.start ≡ s.start)
    × (set.end ≡ end_of (starts_at s.ids.now) (length s.ids.now) s.start)
    × (t.start ≡ set.end)
    × (t.ids.now ≡ s.ids.now)

-- a step of the walk: one more set, or none where no place is left
abbrev pub Steps : Sets → Option (Range ℕ) → Sets → Type 0
Steps s set t = MatchOption set ((length s.ids.now ≤ s.start) × (length t.ids.now ≤ t.start)) (IsNext s t)
