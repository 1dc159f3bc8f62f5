-- The records of a grid and of a study's values: what each list holds, and where the next one starts.
use Rattle.std.specs.Prelude.{ℕ, min, ◌≡◌, List, ℤ, length, Float}
use Rattle.list_laws.specs.Lists.{tabulate}
use Rattle.sheet_counts.specs.declared.Counts.{Counts}
use Rattle.replay_input.specs.Fields.{count_at, after_count, after_bits, whole_at, real_at, after_whole, field_place, whole_from, value_from, WholesRead, RealsRead}

-- the place after a list at a place of the text, cut to a buffer's length, where `after` gives the place after a number
unfoldable pub after_list : (ℕ → ℕ) → List ℕ → ℕ → ℕ → ℕ
after_list after text at room = field_place after (after_count text at) (min (count_at text at) room)

-- where a grid's lists start: after its kind and the three numbers of its mesh
unfoldable pub grid_lists : List ℕ → ℕ → ℕ
grid_lists text at = field_place (after_whole text) (after_whole text at) 3

-- a grid read: kind, mesh, and two lists, addresses and map, each as its buffer before and after and its count; then the place after it
unfoldable pub GridRead : List ℕ → ℕ → ℤ → List ℤ → List ℤ → List ℤ → ℕ → List ℤ → List ℤ → ℕ → ℕ → Type 0
GridRead text at kind mesh addresses addresses' n map map' m next =
    let lists = grid_lists text at in
    let second = after_list (after_whole text) text lists (length addresses) in
    (kind ≡ whole_at text at) × (mesh ≡ tabulate 3 (whole_from text (after_whole text at)))
    × WholesRead text lists addresses addresses' n second × WholesRead text second map map' m next

-- the values of a study read: three lists, both frequencies and the points, each as its buffer before and after and its count; then the place after them
unfoldable pub ValuesRead : List ℕ → ℕ → List Float → List Float → ℕ → List Float → List Float → ℕ → List Float → List Float → ℕ → ℕ → Type 0
ValuesRead text at one one' n two two' m points points' k next =
    let second = after_list (after_bits text) text at (length one) in
    let third = after_list (after_bits text) text second (length two) in
    RealsRead text at one one' n second × RealsRead text second two two' m third × RealsRead text third points points' k next

-- the list at a place of the text, cut to the text's length, where `value` gives the number of a field and `after` the place after it
unfoldable pub list_at : {A : Type 0} → (List ℕ → ℕ → A) → (List ℕ → ℕ → ℕ) → List ℕ → ℕ → List A
list_at value after text at = tabulate (min (count_at text at) (length text)) (value_from value after text (after_count text at))

-- the grid at a place of the text: kind, mesh, addresses, map; then the place after it
unfoldable pub IsGrid : List ℕ → ℕ → ℤ → List ℤ → List ℤ → List ℤ → ℕ → Type 0
IsGrid text at kind mesh addresses map next =
    let lists = grid_lists text at in
    let second = after_list (after_whole text) text lists (length text) in
    (kind ≡ whole_at text at) × (mesh ≡ tabulate 3 (whole_from text (after_whole text at)))
    × (addresses ≡ list_at whole_at after_whole text lists) × (map ≡ list_at whole_at after_whole text second)
    × (next ≡ after_list (after_whole text) text second (length text))

-- the values of a study at a place of the text: both frequencies, the points; then the place after them
unfoldable pub AreValues : List ℕ → ℕ → List Float → List Float → List Float → ℕ → Type 0
AreValues text at one two points next =
    let second = after_list (after_bits text) text at (length text) in
    let third = after_list (after_bits text) text second (length text) in
    (one ≡ list_at real_at after_bits text at) × (two ≡ list_at real_at after_bits text second) × (points ≡ list_at real_at after_bits text third)
    × (next ≡ after_list (after_bits text) text third (length text))

-- the counts of a sheet at a place of the text: triplets, points, both band counts
abbrev pub counts_at : List ℕ → ℕ → Counts
counts_at text at =
    let points = after_whole text at in
    let bands1 = after_whole text points in
    let bands2 = after_whole text bands1 in
    record {
      num_triplets = whole_at text at;
      num_band0 = whole_at text points;
      num_band1 = whole_at text bands1;
      num_band2 = whole_at text bands2;
    }

-- the place after them
abbrev pub after_counts : List ℕ → ℕ → ℕ
after_counts text at = after_whole text (after_whole text (after_whole text (after_whole text at)))
