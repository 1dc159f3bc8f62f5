-- The fields of a record: what each spells, and where the next one starts.
use Rattle.std.specs.Prelude.{ℕ, zero, suc, min, ◌+◌, ◌-◌, ◌*◌, ◌%◌, ◌^◌, ◌≡◌, Bool, ◌||◌, cond, List, [], ◌∷◌, ltb, eqb, ℤ, pos, negsuc, get_or, drop, length, Float}
use Rattle.std.specs.Float.{binary64}
use Rattle.std.specs.Float.Ieee.{of_bits}
use Rattle.list_laws.specs.Lists.{tabulate, fronted}
use Rattle.list_laws.specs.Signed.{eq_z}
use Rattle.replay_compare.specs.Sameness.{entries_agree}
use Rattle.text.specs.Fields.{digit_of}

-- n followed by the digits at the front of s in a base; where n is `room` or more, its first digits are lost
unfoldable pub spelled : ℕ → ℕ → List ℕ → ℕ → ℕ
spelled base room [] n = n
spelled base room (b ∷ s) n = cond (ltb (digit_of b) base) (spelled base room s (n % room * base + digit_of b)) n

-- how many bytes the digits at the front take, with the one byte that ends them
unfoldable pub passed : ℕ → List ℕ → ℕ
passed base [] = 0
passed base (b ∷ s) = cond (ltb (digit_of b) base) (suc (passed base s)) 1

-- the decimal number at a place of the text
unfoldable pub count_at : List ℕ → ℕ → ℕ
count_at text at = spelled 10 1844674407370955161 (drop at text) 0

-- the place after its field
unfoldable pub after_count : List ℕ → ℕ → ℕ
after_count text at = at + passed 10 (drop at text)

-- the hexadecimal number at a place of the text
unfoldable pub bits_at : List ℕ → ℕ → ℕ
bits_at text at = spelled 16 1152921504606846976 (drop at text) 0

-- the place after its field
unfoldable pub after_bits : List ℕ → ℕ → ℕ
after_bits text at = at + passed 16 (drop at text)

-- a magnitude with a minus sign, kept to 64 bits
unfoldable pub negated : ℕ → ℤ
negated n = cond (eqb n 0) (pos 0) (negsuc ((n - 1) % 2 ^ 63))

-- and with none
unfoldable pub plain : ℕ → ℤ
plain n = pos (n % 2 ^ 63)

-- the whole number at a place of the text: a minus sign is the byte 45
unfoldable pub whole_at : List ℕ → ℕ → ℤ
whole_at text at = cond (eqb (get_or text at 0) 45) (negated (count_at text (at + 1))) (plain (count_at text at))

-- the place after its field
unfoldable pub after_whole : List ℕ → ℕ → ℕ
after_whole text at = cond (eqb (get_or text at 0) 45) (after_count text (at + 1)) (after_count text at)

-- the place k fields on, where `after` gives the place after a field
unfoldable pub field_place : (ℕ → ℕ) → ℕ → ℕ → ℕ
field_place after at zero = at
field_place after at (suc k) = after (field_place after at k)

-- number k of the whole numbers from a place on
unfoldable pub whole_from : List ℕ → ℕ → ℕ → ℤ
whole_from text at k = whole_at text (field_place (after_whole text) at k)

-- number k of the floats from a place on, each by its bits
unfoldable pub real_from : List ℕ → ℕ → ℕ → Float
real_from text at k = of_bits binary64 (bits_at text (field_place (after_bits text) at k))

-- the float at a place of the text, by its bits
unfoldable pub real_at : List ℕ → ℕ → Float
real_at text at = of_bits binary64 (bits_at text at)

-- number k from a place on, where `value` gives the number of a field and `after` the place after it
unfoldable pub value_from : {A : Type 0} → (List ℕ → ℕ → A) → (List ℕ → ℕ → ℕ) → List ℕ → ℕ → ℕ → A
value_from value after text at k = value text (field_place (after text) at k)

-- the flags that occur
unfoldable pub is_flag : ℤ → Bool
is_flag n = eq_z n (pos 0) || eq_z n (pos 1) || eq_z n (pos 2) || eq_z n (pos 5) || eq_z n (pos 9) || eq_z n (negsuc 0) || eq_z n (pos 127)

-- a stored number as a flag: -128 for any that does not occur
unfoldable pub flag_of : ℤ → ℤ
flag_of n = cond (is_flag n) n (negsuc 127)

-- the flag at a place of the text
unfoldable pub flag_at : List ℕ → ℕ → ℤ
flag_at text at = flag_of (whole_at text at)

-- the mark at a place of the text, a byte
unfoldable pub mark_at : List ℕ → ℕ → ℕ
mark_at text at = min (count_at text at) 255

-- the entries of a list agree with value 0, value 1, ..
unfoldable pub agrees_from : {A : Type 0} → (A → A → Bool) → List A → (ℕ → A) → Bool
agrees_from agrees xs value = entries_agree agrees xs (tabulate (length xs) value)

-- a list read into a buffer: its count, cut to the buffer's length; the place after it; and its numbers at the front of the buffer
unfoldable pub ListRead : {A : Type 0} → (List ℕ → ℕ → A) → (List ℕ → ℕ → ℕ) → List ℕ → ℕ → List A → List A → ℕ → ℕ → Type 0
ListRead value after text at old new count next =
    (count ≡ min (count_at text at) (length old)) × (next ≡ field_place (after text) (after_count text at) count)
    × (new ≡ fronted count (value_from value after text (after_count text at)) old)

-- a list of whole numbers read into a buffer: its count, cut to the buffer's length; the place after it; and its numbers at the front of the buffer
unfoldable pub WholesRead : List ℕ → ℕ → List ℤ → List ℤ → ℕ → ℕ → Type 0
WholesRead text at before after count next =
    (count ≡ min (count_at text at) (length before)) × (next ≡ field_place (after_whole text) (after_count text at) count)
    × (after ≡ fronted count (whole_from text (after_count text at)) before)

-- the same of floats
unfoldable pub RealsRead : List ℕ → ℕ → List Float → List Float → ℕ → ℕ → Type 0
RealsRead text at before after count next =
    (count ≡ min (count_at text at) (length before)) × (next ≡ field_place (after_bits text) (after_count text at) count)
    × (after ≡ fronted count (real_from text (after_count text at)) before)
