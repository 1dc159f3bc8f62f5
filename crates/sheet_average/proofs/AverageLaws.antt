-- The averages of a triplet as groups of rows, one for each channel, by any rule; those of weights and of flags. Assumes nothing.
use mathlib.Core.Path.{◌≡◌, refl, sym, ap, ◌∙◌}
use mathlib.Core.Bool.{Bool, true, false, cond}
use mathlib.Core.List.{List, ◌++◌}
use Prim.Native.Nat.{ℕ, ◌+◌, ◌-◌, ◌*◌, ◌/◌, ◌%◌, ◌≤◌, ◌<◌}
use native.Mathlib.Nat.{mod-lt, mod-eq_of_lt, div-lt_iff_lt-mul, add-mul, mul_assoc, mul-le-mul, one-le-mul}
use native.Mathlib.Omega.{arith}
use lib.Arith.{digits_div, mod-mul}
use lib.Dec.{eqb}
use lib.Ieee.{Float, nan}
use lib.IntN.{ℤ, pos}
use lib.ListN.{length, take, drop}
use borrow.Author.Tests.{lt-ltb}
use Rattle.list_laws.specs.Matrix.{each_part}
use Rattle.list_laws.proofs.PatchLaws.{length-patch, patch-ext}
use Rattle.list_laws.proofs.ProductLaws.{row-le}
use Rattle.list_laws.proofs.StrideLaws.{strided}
use Rattle.list_laws.specs.Groups.{group_made}
use Rattle.list_laws.proofs.GroupLaws.{group-back, some_groups, groups-more}
use Rattle.ieee_laws.specs.Zeros.{plus_zero}
use Rattle.triplet_study.specs.declared.Sizes.{Sizes}
use Rattle.triplet_piece.specs.Layout.{triplet_at}
use Rattle.degenerate_sets.specs.Averages.{Rule, averaged_by, points_by}
use Rattle.degenerate_sets.proofs.AverageLaws.{averaged-length}
use Rattle.averaging_blocks.specs.Weights.{averaged_in}
use Rattle.averaging_flags.specs.Flags.{flag_in}
use Rattle.triplet_study.specs.Tested.{Counted}
use Rattle.sheet_step.specs.Steps.{triplet_averaged, triplet_flags_averaged}
use Rattle.sheet_step.proofs.CountLaws.{cells-by-size, triplet-place}
use Rattle.sheet_average.specs.Triplets.{triplet_by}

-- the triplet of a place of the weights
group-triplet : (p b n i : ℕ) → 0 < b → 0 < n → 0 < p → triplet_at p b (i % (n * p * b)) ≡ i / b / p % n
unfolding triplet_at
group-triplet p b n i hb hn hp =
    let e : i / b % (n * p) ≡ i / b / p % n * p + i / b % p = mod-mul (i / b) hn hp in
    let w : i % (n * p * b) ≡ i / b % (n * p) * b + i % b = mod-mul i (one-le-mul hn hp) hb in
    rw (w, digits_div (i / b % (n * p)) (mod-lt i hb), e, digits_div (i / b / p % n) (mod-lt (i / b) hp))

module _ (z : Sizes) (h : Counted z) (channels : ℕ) where
  -- the entries of triplet t in channel c of so many
  pub channel-place : (t c : ℕ) → t < z.triplets → c < channels → c * z.cells + t * (z.points * z.pairs) + z.points * z.pairs ≤ channels * z.cells
  channel-place t c l k =
      let r : c * z.cells + z.cells ≤ channels * z.cells = row-le z.cells k in
      omega (arith, r, triplet-place z h t l)

  pub entries-few : channels ≤ 3 → channels * z.cells ≤ 824633720832
  entries-few few = mul-le-mul few h.cells-few

module _ {A : Type 0} (d : A) (rule : Rule A) (z : Sizes) (h : Counted z) (ids1 ids2 : List ℤ) where
  -- one channel: a slice that is averaged row by row is a group
  pub channel-back : (same : z.bands1 ≡ z.bands2) (t c : ℕ) (w y : List A)
      → y ≡ points_by rule z.bands1 ids1 ids2 z.points (take (c * z.cells + t * (z.points * z.pairs) + z.points * z.pairs - (c * z.cells + t * (z.points * z.pairs))) (drop (c * z.cells + t * (z.points * z.pairs)) w))
      → c * z.cells + t * (z.points * z.pairs) + z.points * z.pairs ≤ length w
      → take (c * z.cells + t * (z.points * z.pairs)) w ++ (y ++ drop (c * z.cells + t * (z.points * z.pairs) + z.points * z.pairs - (c * z.cells + t * (z.points * z.pairs))) (drop (c * z.cells + t * (z.points * z.pairs)) w))
      ≡ group_made z.points z.pairs (averaged_by rule z.bands1 ids1 ids2) d (c * z.triplets + t) w
  unfolding points_by
  channel-back same t c w y ey fits =
      let from : ℕ = c * z.cells + t * (z.points * z.pairs) in
      let f = averaged_by rule z.bands1 ids1 ids2 in
      let start : from ≡ (c * z.triplets + t) * (z.points * z.pairs)
      = ap (λ (n : ℕ). c * n + t * (z.points * z.pairs)) (cells-by-size z h) ∙ ap (λ (n : ℕ). n + t * (z.points * z.pairs)) (sym (mul_assoc c z.triplets (z.points * z.pairs))) ∙ sym (add-mul (c * z.triplets) t (z.points * z.pairs)) in
      let square : z.pairs ≡ z.bands1 * z.bands1 = h.pairs-are ∙ ap (λ (n : ℕ). z.bands1 * n) (sym same) in
      let size : from + z.points * z.pairs - from ≡ z.points * z.pairs = omega arith in
      ap (λ (n : ℕ). take from w ++ (y ++ drop n (drop from w))) size
      ∙ group-back d z.points z.pairs f h.pairs-some h.points-some (λ l. averaged-length rule z.bands1 ids1 ids2 l ∙ sym square) (c * z.triplets + t) from w y start fits
      (ey ∙ (λ i. each_part (sym square i) f z.points (take (size i) (drop from w))))

  -- a turn over the channels
  pub channel-turn : (channels t c : ℕ) (l w : List A) → t < z.triplets → length l ≡ channels * z.cells
      → w ≡ some_groups z.points z.pairs (averaged_by rule z.bands1 ids1 ids2) d z.triplets t c l
      → group_made z.points z.pairs (averaged_by rule z.bands1 ids1 ids2) d (c * z.triplets + t) w ≡ some_groups z.points z.pairs (averaged_by rule z.bands1 ids1 ids2) d z.triplets t (c + 1) l
  channel-turn channels t c l w lt e ew =
      let rows : length l ≡ channels * (z.triplets * z.points) * z.pairs = e ∙ ap (λ (n : ℕ). channels * n) h.cells_are ∙ sym (mul_assoc channels (z.triplets * z.points) z.pairs) in
      ap (group_made z.points z.pairs (averaged_by rule z.bands1 ids1 ids2) d (c * z.triplets + t)) ew
      ∙ groups-more d z.points z.pairs (averaged_by rule z.bands1 ids1 ids2) z.triplets t h.pairs-some lt c (channels * (z.triplets * z.points)) l rows

  -- all channels
  pub channels-all : (channels t c : ℕ) (l : List A) → c ≡ channels → t < z.triplets → length l ≡ channels * z.cells
      → some_groups z.points z.pairs (averaged_by rule z.bands1 ids1 ids2) d z.triplets t c l ≡ triplet_by d rule z t ids1 ids2 l
  unfolding some_groups triplet_by
  channels-all channels t c l ec ht e =
      patch-ext (λ i. strided z.triplets t c (i / z.pairs / z.points)) _ (λ i. eqb (triplet_at z.points z.pairs (i % z.cells)) t) _ l
      (λ i k x. let s : strided z.triplets t c (i / z.pairs / z.points) ≡ eqb (triplet_at z.points z.pairs (i % z.cells)) t = go i (rw e at k) in rw s)
    where
      flat : (u : Bool) → cond u true false ≡ u
      flat true = refl
      flat false = refl

      go : (i : ℕ) → i < channels * z.cells → strided z.triplets t c (i / z.pairs / z.points) ≡ eqb (triplet_at z.points z.pairs (i % z.cells)) t
      go i k =
          let hn : 0 < z.triplets = omega arith in
          let hb : 0 < z.pairs = h.pairs-some in
          let hp : 0 < z.points = h.points-some in
          let q : channels * (z.triplets * z.points * z.pairs) ≡ channels * z.triplets * z.points * z.pairs = simp mul_assoc in
          let k' : i < channels * z.triplets * z.points * z.pairs = rw (h.cells_are, q) at k in
          let d₁ : i / z.pairs < channels * z.triplets * z.points = (div-lt_iff_lt-mul hb).1 k' in
          let d₂ : i / z.pairs / z.points < channels * z.triplets = (div-lt_iff_lt-mul hp).1 d₁ in
          let d₃ : i / z.pairs / z.points / z.triplets < channels = (div-lt_iff_lt-mul hn).1 d₂ in
          rw (ec, h.cells_are, group-triplet z.points z.pairs z.triplets i hb hn hp, lt-ltb (i / z.pairs / z.points / z.triplets) channels d₃) (flat (eqb (i / z.pairs / z.points % z.triplets) t))

-- ---- the rules of weights and of flags

pub weights-by-rule : (z : Sizes) (t : ℕ) (ids1 ids2 : List ℤ) (l : List Float) → triplet_by nan (averaged_in plus_zero) z t ids1 ids2 l ≡ triplet_averaged z t ids1 ids2 l
unfolding triplet_by triplet_averaged
weights-by-rule z t ids1 ids2 l = refl

-- the flags have one channel
pub flags-by-rule : (z : Sizes) (t : ℕ) (ids1 ids2 l : List ℤ) → length l ≡ z.cells → triplet_by (pos 0) flag_in z t ids1 ids2 l ≡ triplet_flags_averaged z t ids1 ids2 l
unfolding triplet_by triplet_flags_averaged
flags-by-rule z t ids1 ids2 l e =
    patch-ext (λ i. eqb (triplet_at z.points z.pairs (i % z.cells)) t) _ (λ j. eqb (triplet_at z.points z.pairs j) t) _ l
    (λ i k x. let k' : i < z.cells = rw e at k in rw (mod-eq_of_lt k'))

-- ---- an averaging keeps the lengths

pub length-average : (z : Sizes) (t : ℕ) (ids1 ids2 : List ℤ) (l : List Float) → length (triplet_averaged z t ids1 ids2 l) ≡ length l
unfolding triplet_averaged
length-average z t ids1 ids2 l = length-patch _ _ l

pub length-average-flags : (z : Sizes) (t : ℕ) (ids1 ids2 : List ℤ) (l : List ℤ) → length (triplet_flags_averaged z t ids1 ids2 l) ≡ length l
unfolding triplet_flags_averaged
length-average-flags z t ids1 ids2 l = length-patch _ _ l
