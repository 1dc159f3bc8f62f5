-- Questions 9 and 12: counts, and lengths of lent buffers.
use Rattle.std.specs.Prelude.{Bool, ◌&&◌, ℕ, ◌*◌, leb, eqb, ℤ}
use Rattle.std.specs.Int.Signed.{non_neg, mag}
use Rattle.list_laws.specs.Signed.{is_between}

-- Question 9: "band counts 1 to 64"
unfoldable pub is_band_count : ℤ → Bool
is_band_count n = is_between 1 64 n

-- Question 9: "frequency points 1 to 1,024"
abbrev pub is_point_count : ℕ → Bool
is_point_count n = leb 1 n && leb n 1024

-- Question 9: "triplets or grid points at most 65,536 (0 allowed)"
abbrev pub is_triplet_count : ℕ → Bool
is_triplet_count n = leb n 65536

-- Question 9: "Are band counts 1 to 64, frequency points 1 to 1,024, triplets or grid points at most 65,536 (0 allowed)?"
unfoldable pub are_counts : ℤ → ℤ → ℤ → ℤ → Bool
are_counts bands1 bands2 points many =
    ((is_band_count bands1 && is_band_count bands2) && (non_neg points && is_point_count (mag points))) && (non_neg many && is_triplet_count (mag many))

-- how many entries a triplet has: one for each point, b1, b2
abbrev pub cell_count : ℤ → ℤ → ℤ → ℕ
cell_count points bands1 bands2 = mag points * (mag bands1 * mag bands2)

-- Question 12: "Is each lent buffer exactly as long as its record?", the record being so many parts of one size
unfoldable pub is_product : ℕ → ℕ → ℕ → Bool
is_product count size total = eqb total (count * size)
