-- A sheet's content in a record: weights, flags and marks, one number a field.
use Rattle.std.specs.Prelude.{ℕ, min, ◌≡◌, Bool, ◌&&◌, List, ℤ, pos, eqb, Float, get_or, length}
use Rattle.std.specs.Float.{binary64, nan}
use Rattle.std.specs.Float.Ieee.{to_bits}
use Rattle.list_laws.specs.Lists.{tabulate, all_below}
use Rattle.list_laws.specs.Signed.{eq_z}
use Rattle.replay_input.specs.Fields.{flag_of, flag_at, mark_at, real_at, value_from, count_at, after_count, bits_at, after_bits, after_whole, field_place, whole_from, real_from}

-- flag k of those from a place on
unfoldable pub flag_from : List ℕ → ℕ → ℕ → ℤ
flag_from text at k = flag_of (whole_from text at k)

-- mark k of those from a place on, a byte
unfoldable pub mark_from : List ℕ → ℕ → ℕ → ℕ
mark_from text at k = min (count_at text (field_place (after_count text) at k)) 255

-- number k of the hexadecimal ones from a place on
unfoldable pub bits_from : List ℕ → ℕ → ℕ → ℕ
bits_from text at k = bits_at text (field_place (after_bits text) at k)

-- a sheet read: weights, then flags, then marks fill their buffers, whose content before and after is given; and the place after them
unfoldable pub SheetRead : List ℕ → ℕ → List Float → List Float → List ℤ → List ℤ → List ℕ → List ℕ → ℕ → Type 0
SheetRead text at weights weights' flags flags' marks marks' next =
    let second = field_place (after_bits text) at (length weights) in
    let third = field_place (after_whole text) second (length flags) in
    (weights' ≡ tabulate (length weights) (real_from text at)) × (flags' ≡ tabulate (length flags) (flag_from text second))
    × (marks' ≡ tabulate (length marks) (mark_from text third)) × (next ≡ field_place (after_count text) third (length marks))

-- the sheet at a place of the text: so many weights, flags and marks, and the sixteen counts of its tally; and the place after them
unfoldable pub IsSheet : List ℕ → ℕ → ℕ → ℕ → ℕ → List Float → List ℤ → List ℕ → List ℕ → ℕ → Type 0
IsSheet text at w f m weights flags marks tally next =
    let second = field_place (after_bits text) at w in
    let third = field_place (after_whole text) second f in
    let fourth = field_place (after_count text) third m in
    (weights ≡ tabulate w (value_from real_at after_bits text at)) × (flags ≡ tabulate f (value_from flag_at after_whole text second))
    × (marks ≡ tabulate m (value_from mark_at after_count text third)) × (tally ≡ tabulate 16 (bits_from text fourth))
    × (next ≡ field_place (after_bits text) fourth 16)

-- the weights are the stored ones from a place on, by bits, all NaNs being one
unfoldable pub same_weights : List ℕ → ℕ → List Float → Bool
same_weights text at weights = all_below (length weights) (λ k. eqb (to_bits binary64 (get_or weights k nan)) (to_bits binary64 (real_from text at k)))

-- the flags are the stored ones
unfoldable pub same_flags : List ℕ → ℕ → List ℤ → Bool
same_flags text at flags = all_below (length flags) (λ k. eq_z (get_or flags k (pos 0)) (flag_from text at k))

-- the marks are the stored ones
unfoldable pub same_marks : List ℕ → ℕ → List ℕ → Bool
same_marks text at marks = all_below (length marks) (λ k. eqb (get_or marks k 0) (mark_from text at k))

-- the answers are the stored ones
unfoldable pub same_answers : List ℕ → ℕ → List ℕ → Bool
same_answers text at answers = all_below (length answers) (λ k. eqb (get_or answers k 0) (bits_from text at k))

-- the sixteen counts of a tally are the stored ones
unfoldable pub same_counts : List ℕ → ℕ → List ℕ → Bool
same_counts text at tally = all_below 16 (λ k. eqb (get_or tally k 0) (bits_from text at k))

-- a sheet is the stored one: its weights, then its flags, then its marks
unfoldable pub same_sheet : List ℕ → ℕ → List Float → List ℤ → List ℕ → Bool
same_sheet text at weights flags marks =
    let second = field_place (after_bits text) at (length weights) in
    let third = field_place (after_whole text) second (length flags) in
    (same_weights text at weights && same_flags text second flags) && same_marks text third marks

-- the place after so many weights, flags and marks
unfoldable pub after_sheet : List ℕ → ℕ → ℕ → ℕ → ℕ → ℕ
after_sheet text at w f m = field_place (after_count text) (field_place (after_whole text) (field_place (after_bits text) at w) f) m
