-- What question 9's yes says of each count. Assumes nothing.
use mathlib.Core.Path.{◌≡◌, refl, ap}
use mathlib.Core.Bool.{Bool, true, false, ◌&&◌}
use Prim.Native.Nat.{ℕ, ◌*◌, ◌≤◌}
use native.Mathlib.Nat.{mul-le-mul}
use borrow.Author.Tests.{leb-true}
use lib.Dec.{leb}
use lib.IntN.{ℤ, pos, negsuc}
use lib.Signed.{non_neg, mag}
use Rattle.list_laws.proofs.BoolLaws.{and_left, and_right}
use Rattle.list_laws.proofs.SignedLaws.{between-low, between-high}
use Rattle.question_values.specs.Counts.{is_band_count, is_point_count, is_triplet_count, are_counts, cell_count}

-- ---- one count

pub band-low : (n : ℤ) → is_band_count n ≡ true → 1 ≤ mag n
unfolding is_band_count
band-low n e = between-low 1 64 n e

pub band-high : (n : ℤ) → is_band_count n ≡ true → mag n ≤ 64
unfolding is_band_count
band-high n e = between-high 1 64 n e

point-low : (n : ℕ) → is_point_count n ≡ true → 1 ≤ n
point-low n e = leb-true 1 n (and_left (leb 1 n) (leb n 1024) e)

point-high : (n : ℕ) → is_point_count n ≡ true → n ≤ 1024
point-high n e = leb-true n 1024 (and_right (leb 1 n) (leb n 1024) e)

-- ---- all of them

module _ (bands1 bands2 points many : ℤ) (e : are_counts bands1 bands2 points many ≡ true) where
  abbrev bands : Bool
  bands = is_band_count bands1 && is_band_count bands2

  abbrev pointed : Bool
  pointed = non_neg points && is_point_count (mag points)

  first_three : (bands && pointed) ≡ true
  unfolding are_counts
  first_three = and_left (bands && pointed) (non_neg many && is_triplet_count (mag many)) e

  bands-yes : bands ≡ true
  bands-yes = and_left bands pointed first_three

  points-yes : is_point_count (mag points) ≡ true
  points-yes = and_right (non_neg points) (is_point_count (mag points)) (and_right bands pointed first_three)

  pub bands1-low : 1 ≤ mag bands1
  bands1-low = band-low bands1 (and_left (is_band_count bands1) (is_band_count bands2) bands-yes)

  pub bands1-high : mag bands1 ≤ 64
  bands1-high = band-high bands1 (and_left (is_band_count bands1) (is_band_count bands2) bands-yes)

  pub bands2-low : 1 ≤ mag bands2
  bands2-low = band-low bands2 (and_right (is_band_count bands1) (is_band_count bands2) bands-yes)

  pub bands2-high : mag bands2 ≤ 64
  bands2-high = band-high bands2 (and_right (is_band_count bands1) (is_band_count bands2) bands-yes)

  pub points-low : 1 ≤ mag points
  points-low = point-low (mag points) points-yes

  pub points-high : mag points ≤ 1024
  points-high = point-high (mag points) points-yes

  pub many-high : mag many ≤ 65536
  unfolding are_counts
  many-high =
      leb-true (mag many) 65536 (and_right (non_neg many) (is_triplet_count (mag many)) (and_right (bands && pointed) (non_neg many && is_triplet_count (mag many)) e))

  -- ---- their products

  pub pairs-high : mag bands1 * mag bands2 ≤ 4096
  pairs-high = mul-le-mul bands1-high bands2-high

  pub cells-high : cell_count points bands1 bands2 ≤ 4194304
  cells-high = mul-le-mul points-high pairs-high

  pub all-cells-high : mag many * cell_count points bands1 bands2 ≤ 274877906944
  all-cells-high = mul-le-mul many-high cells-high

-- ---- signs first

none : (b : Bool) → false ≡ (b && false)
none true = refl
none false = refl

-- the signs of the last two counts may be asked before
pub signs-first : (bands1 bands2 points many : ℤ)
    → ((non_neg points && non_neg many) && are_counts bands1 bands2 (pos (mag points)) (pos (mag many))) ≡ are_counts bands1 bands2 points many
unfolding are_counts
signs-first bands1 bands2 (pos n) (pos m) = refl
signs-first bands1 bands2 (pos n) (negsuc m) = none ((is_band_count bands1 && is_band_count bands2) && is_point_count n)
signs-first bands1 bands2 (negsuc n) (pos m) = ap (λ (b : Bool). b && is_triplet_count m) (none (is_band_count bands1 && is_band_count bands2))
signs-first bands1 bands2 (negsuc n) (negsuc m) = none ((is_band_count bands1 && is_band_count bands2) && false)
