-- Corner values of a band pair, and the box of a channel.
use Rattle.std.specs.Prelude.{◌≡◌, cond, List, [], ℕ, zero, suc, ◌+◌, ◌*◌, ◌<◌, get_or, length, Float}
use Rattle.std.specs.Float.{nan}
use Rattle.std.specs.Float.Ieee.{lt, neg}
use Rattle.list_laws.specs.Lists.{tabulate}
use Rattle.ieee_laws.specs.Zeros.{zero_f}
use Rattle.tetrahedron_fractions.specs.Binary64.{◌⊕◌, ◌⊖◌}
use Rattle.triplet_types.specs.declared.TpType.{TpType}
use Rattle.triplet_types.specs.declared.TpType.TheVariants.{Type2, Type3, Type4}
use Rattle.triplet_values.specs.declared.Combination.{Combination}
use Rattle.triplet_values.specs.declared.Combination.TheVariants.{SecondLessFirst, FirstLessSecond, Sum}
use Rattle.triplet_values.specs.declared.ValueBox.{ValueBox}

-- one of several work areas
abbrev pub area_at : {A : Type 0} → List (List A) → ℕ → List A
area_at areas i = get_or areas i []

-- a value below 0 replaced by 0
abbrev pub clamped : Float → Float
clamped f = cond (lt f zero_f) zero_f f

-- "Types 2 and 3 replace values below 0 by 0; type 4 keeps them."
unfoldable pub corner_frequency : TpType → Float → Float
corner_frequency Type2 f = clamped f
corner_frequency Type3 f = clamped f
corner_frequency Type4 f = f

-- the frequencies of one band at the first n of the corners with these grid point numbers
unfoldable pub corner_frequencies : TpType → List ℕ → ℕ → List Float → ℕ → ℕ → List Float
corner_frequencies tp numbers n frequencies bands band =
    tabulate n (λ i. corner_frequency tp (get_or frequencies (get_or numbers i 0 * bands + band) nan))

-- each corner number has its frequency of the band
abbrev pub Held : List ℕ → ℕ → ℕ → ℕ → ℕ → Type 0
Held numbers n count bands band = (i : ℕ) → i < n → get_or numbers i 0 * bands + band < count

-- "The channels are -f1+f2, f1-f2, f1+f2": one of them at a corner
unfoldable pub combined : ℕ → Float → Float → Float
combined zero x y = neg x ⊕ y
combined (suc zero) x y = x ⊖ y
combined (suc (suc n)) x y = x ⊕ y

-- the number of a channel, by what it makes of them
abbrev pub number_of : Combination → ℕ
number_of SecondLessFirst = 0
number_of FirstLessSecond = 1
number_of Sum = 2

-- the values of a channel at the first n corners
unfoldable pub channel_values : ℕ → List Float → List Float → ℕ → List Float
channel_values channel f1 f2 n = tabulate n (λ i. combined channel (get_or f1 i nan) (get_or f2 i nan))

-- the lesser of two values, the first where they are equal
abbrev pub lesser : Float → Float → Float
lesser m v = cond (lt v m) v m

-- the greater of two values, the first where they are equal
abbrev pub greater : Float → Float → Float
greater m v = cond (lt m v) v m

-- the least of the first n values, from the first value on
unfoldable pub least_of : List Float → ℕ → Float
least_of a zero = get_or a 0 nan
least_of a (suc k) = lesser (least_of a k) (get_or a k nan)

-- the greatest of the first n values, from the first value on
unfoldable pub greatest_of : List Float → ℕ → Float
greatest_of a zero = get_or a 0 nan
greatest_of a (suc k) = greater (greatest_of a k) (get_or a k nan)

-- "For each channel a box is the least and the greatest of the values."
unfoldable pub box_of : List Float → ℕ → ValueBox
box_of a n = record { fmin = least_of a n; fmax = greatest_of a n }

-- a work area of 384 floats begins as the list t does, for n entries
pub record Begun (n : ℕ) (s t : List Float) : Type 0 where
  pub size : length s ≡ 384
  pub same : (i : ℕ) → i < n → get_or s i nan ≡ get_or t i nan
