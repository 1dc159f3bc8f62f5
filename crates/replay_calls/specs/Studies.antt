-- The record of a study that stays with a program.
use Rattle.std.specs.Prelude.{ℕ, ◌≡◌, List, ℤ, Float, length}
use Rattle.replay_input.specs.Fields.{after_bits, after_whole, whole_at}
use Rattle.replay_study.specs.Records.{after_list, list_at, AreValues}

-- the study at a place of the text: type, both band counts, the values, the triplets; then the place after it
unfoldable pub IsStudy : List ℕ → ℕ → ℤ → ℤ → ℤ → List Float → List Float → List Float → List ℤ → ℕ → Type 0
IsStudy text at type band1 band2 one two points triplets next =
    let second = after_whole text at in
    let third = after_whole text second in
    let values = after_whole text third in
    let list : ℕ → ℕ = λ place. after_list (after_bits text) text place (length text) in
    let last = list (list (list values)) in
    (type ≡ whole_at text at) × (band1 ≡ whole_at text second) × (band2 ≡ whole_at text third)
    × AreValues text values one two points last × (triplets ≡ list_at whole_at after_whole text last)
    × (next ≡ after_list (after_whole text) text last (length text))
