-- Once every triplet is computed, all weights and flags are. Assumes nothing.
use mathlib.Core.Path.{◌≡◌, ap, ◌∙◌}
use mathlib.Core.Bool.{true}
use mathlib.Core.List.{List}
use Prim.Native.Nat.{ℕ, zero, suc, ◌*◌, ◌/◌, ◌%◌, ◌≤◌, ◌<◌}
use native.Mathlib.Nat.{mod-lt, div-lt_iff_lt-mul}
use native.Mathlib.Omega.{arith}
use lib.Arith.{digits_div}
use lib.Dec.{ltb}
use lib.Ieee.{Float, nan}
use lib.IntN.{ℤ, pos}
use lib.ListN.{length}
use borrow.Author.Tests.{lt-ltb}
use Rattle.list_laws.specs.Lists.{tabulate}
use Rattle.list_laws.proofs.StrideLaws.{patch-whole}
use Rattle.triplet_study.specs.declared.Sizes.{Sizes}
use Rattle.triplet_study.specs.Study.{Study, sizes_of}
use Rattle.triplet_study.specs.Tested.{Counted, Ready}
use Rattle.triplet_study.proofs.StudyLaws.{counted}
use Rattle.triplet_piece.specs.Layout.{triplet_at, pair_at, piece_at, patch_pieces}
use Rattle.triplet_piece.specs.Weights.{weight_at, flag_at, computed_weights, computed_flags, AreComputed}
use Rattle.triplet_iw.specs.Whole.{all_weights, all_flags}

-- a cell's triplet is one of the triplets
cell-triplet : (points pairs triplets j : ℕ) → 1 ≤ points → 1 ≤ pairs → j < triplets * points * pairs → piece_at points pairs j / pairs < triplets
unfolding piece_at triplet_at pair_at
cell-triplet points pairs triplets j hp hb h =
    let a : j / pairs < triplets * points = (div-lt_iff_lt-mul {k = pairs} {x = j} {y = triplets * points} hb).1 h in
    let b : j / pairs / points < triplets = (div-lt_iff_lt-mul {k = points} {x = j / pairs} {y = triplets} hp).1 a in
    rw (digits_div (j / pairs / points) (mod-lt j hb)) b

remainder-lt : (i c m : ℕ) → i < c * m → i % m < m
remainder-lt i c zero h = absurd (omega (arith, zero-product c))
  where
    zero-product : (k : ℕ) → k * 0 ≡ 0
    zero-product k = omega arith
remainder-lt i c (suc m) h = mod-lt i (omega arith)

module _ {s : Study} {z : Sizes} {weights flags : ℕ} (r : Ready s z weights flags) where
  owned : (t : ℕ) → t ≡ z.triplets → (j : ℕ) → j < (sizes_of s).cells → ltb (piece_at (sizes_of s).points (sizes_of s).pairs j / z.pairs) t ≡ true
  owned t e j h =
      let c : Counted (sizes_of s) = counted r.tested in
      let l : j < (sizes_of s).triplets * (sizes_of s).points * (sizes_of s).pairs = rw (← c.cells_are) h in
      rw (e, r.counts) (lt-ltb (piece_at (sizes_of s).points (sizes_of s).pairs j / (sizes_of s).pairs) (sizes_of s).triplets (cell-triplet (sizes_of s).points (sizes_of s).pairs (sizes_of s).triplets j c.points-some c.pairs-some l))

  -- a list whose every place has a cell of the study
  whole : {A : Type 0} (d : A) (cell : ℕ → ℕ) (value : ℕ → A) (n t : ℕ) → t ≡ z.triplets → ((i : ℕ) → i < n → cell i < (sizes_of s).cells)
      → (l : List A) → length l ≡ n → patch_pieces (sizes_of s) cell (λ q. ltb (q / z.pairs) t) value l ≡ tabulate n value
  whole d cell value n t e h l q =
      patch-whole d (λ i. ltb (piece_at (sizes_of s).points (sizes_of s).pairs (cell i) / z.pairs) t) value l (λ i b. owned t e (cell i) (h i (rw q at b)))
      ∙ ap (λ (m : ℕ). tabulate m value) q

  pub all-computed : (t : ℕ) → t ≡ z.triplets → {w : List Float} {f : List ℤ} {w' : List Float} {f' : List ℤ} → length w ≡ weights → length f ≡ flags
      → AreComputed s (λ n. ltb (n / z.pairs) t) w f w' f' → (w' ≡ all_weights s) × (f' ≡ all_flags s)
  unfolding computed_weights computed_flags all_weights all_flags
  all-computed t e {w} {f} hw hf a = (
    a.weights-are
        ∙ whole nan (λ i. i % (sizes_of s).cells) (weight_at s) ((sizes_of s).channels * (sizes_of s).cells) t e
        (λ i b. remainder-lt i (sizes_of s).channels (sizes_of s).cells b) w (hw ∙ (rw r.counts at r.fits.weighed)),
    a.flags-are ∙ whole (pos 0) (λ j. j) (flag_at s) (sizes_of s).cells t e (λ j b. b) f (hf ∙ (rw r.counts at r.fits.flagged)),
  )
