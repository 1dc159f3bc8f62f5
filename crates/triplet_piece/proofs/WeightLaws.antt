-- A piece that is written is one that is computed; computed pieces join. Assumes nothing.
use mathlib.Core.Path.{◌≡◌, sym, ap, ◌∙◌}
use mathlib.Core.Bool.{Bool, true, false, cond}
use mathlib.Core.List.{List}
use Prim.Native.Nat.{ℕ, ◌+◌, ◌*◌, ◌/◌, ◌%◌, ◌<◌}
use lib.Arith.{digits_div, digits_mod}
use lib.Dec.{eqb}
use lib.Ieee.{Float}
use lib.IntN.{ℤ}
use lib.ListN.{length}
use borrow.Author.Tests.{eqb-true}
use Rattle.list_laws.proofs.ProductLaws.{digit_lt}
use Rattle.triplet_outputs.specs.declared.Outputs.{Outputs}
use Rattle.triplet_study.specs.declared.Sizes.{Sizes}
use Rattle.triplet_study.specs.Study.{Study, bands1_in, bands2_in, sizes_by, sizes_of}
use Rattle.triplet_study.proofs.StudyLaws.{bands1-of, bands2-of}
use Rattle.triplet_piece.specs.Layout.{point_at, piece_at, cell_of, channel_of, weight_by, flag_by, piece_weights, piece_flags, AreWritten}
use Rattle.triplet_piece.specs.Weights.{outputs_of, outputs_at_cell, weight_at, flag_at, computed_weights, computed_flags, AreComputed}
use Rattle.triplet_piece.proofs.LayoutLaws.{piece-cell, point-cell, piece_is, cell-lt, patched-length, patched-none, patched-alike, patched_same, patched-join, weights-same, flags-same}

-- the outputs at a cell of a piece
cell-outputs : (s : Study) (t b1 b2 j : ℕ) → b1 < bands1_in s → b2 < bands2_in s → piece_at (sizes_of s).points (sizes_of s).pairs j ≡ t * (sizes_of s).pairs + (b1 * bands2_in s + b2)
    → outputs_at_cell s (sizes_of s) j ≡ outputs_of s t b1 b2 (point_at (sizes_of s).points (sizes_of s).pairs j)
unfolding sizes_by outputs_at_cell
cell-outputs s t b1 b2 j h1 h2 e =
    let d : _ = piece_is (length s.points) (bands1_in s * bands2_in s) t (b1 * bands2_in s + b2) j (digit_lt b1 (bands1_in s) b2 (bands2_in s) h1 h2) e in
    rw (d.0, d.1, digits_div b1 h2, digits_mod b1 h2)

-- "Weights lie by channel, triplet, point, b1, b2; flags without the channel": the places of triplet t, point x, bands b1 and b2
module _ (s : Study) (t b1 b2 x : ℕ) (h1 : b1 < bands1_in s) (h2 : b2 < bands2_in s) (hx : x < (sizes_of s).points) where
  abbrev pub cell_at : ℕ
  cell_at = cell_of (sizes_of s).points (sizes_of s).pairs t (b1 * bands2_in s + b2) x

  in_pairs : b1 * bands2_in s + b2 < (sizes_of s).pairs
  unfolding sizes_by
  in_pairs = digit_lt b1 (bands1_in s) b2 (bands2_in s) h1 h2

  in_cells : t < (sizes_of s).triplets → cell_at < (sizes_of s).cells
  unfolding sizes_by
  in_cells ht = cell-lt (length s.points) (bands1_in s * bands2_in s) t (b1 * bands2_in s + b2) x in_pairs hx ht

  outputs-placed : outputs_at_cell s (sizes_of s) cell_at ≡ outputs_of s t b1 b2 x
  outputs-placed =
      cell-outputs s t b1 b2 cell_at h1 h2 (piece-cell (sizes_of s).points (sizes_of s).pairs t (b1 * bands2_in s + b2) x in_pairs hx)
      ∙ ap (outputs_of s t b1 b2) (point-cell (sizes_of s).points (sizes_of s).pairs t (b1 * bands2_in s + b2) x in_pairs hx)

  pub flag-placed : flag_at s cell_at ≡ (outputs_of s t b1 b2 x).flag
  flag-placed = ap (λ (o : Outputs). o.flag) outputs-placed

  pub weight-placed : (c : ℕ) → t < (sizes_of s).triplets → weight_at s (c * (sizes_of s).cells + cell_at) ≡ channel_of (outputs_of s t b1 b2 x) c
  weight-placed c ht = rw (digits_mod c (in_cells ht), digits_div c (in_cells ht), outputs-placed)

-- a piece that is written by its outputs is computed
module _ (s : Study) (t b1 b2 q : ℕ) (h1 : b1 < bands1_in s) (h2 : b2 < bands2_in s) (e : q ≡ t * (sizes_of s).pairs + (b1 * bands2_in s + b2)) where
  at-cell : (j : ℕ) → eqb (piece_at (sizes_of s).points (sizes_of s).pairs j) q ≡ true → outputs_of s t b1 b2 (point_at (sizes_of s).points (sizes_of s).pairs j) ≡ outputs_at_cell s (sizes_of s) j
  at-cell j f = sym (cell-outputs s t b1 b2 j h1 h2 (eqb-true (piece_at (sizes_of s).points (sizes_of s).pairs j) q f ∙ e))

  pub piece-weights : (l : List Float) → piece_weights (sizes_of s) q (outputs_of s t b1 b2) l ≡ computed_weights s (λ n. eqb n q) l
  unfolding piece_weights computed_weights
  piece-weights l =
      patched_same (sizes_of s) (λ i. i % (sizes_of s).cells) (λ n. eqb n q) (weight_by (sizes_of s) (outputs_of s t b1 b2)) (weight_at s)
      (λ i f. ap (λ (o : Outputs). channel_of o (i / (sizes_of s).cells)) (at-cell (i % (sizes_of s).cells) f)) l

  pub piece-flags : (l : List ℤ) → piece_flags (sizes_of s) q (outputs_of s t b1 b2) l ≡ computed_flags s (λ n. eqb n q) l
  unfolding piece_flags computed_flags
  piece-flags l =
      patched_same (sizes_of s) (λ j. j) (λ n. eqb n q) (flag_by (sizes_of s) (outputs_of s t b1 b2)) (flag_at s)
      (λ j f. ap (λ (o : Outputs). o.flag) (at-cell j f)) l

-- ---- pieces that are computed one after the other

module _ (s : Study) (o₁ o₂ o₃ : ℕ → Bool) (h : (n : ℕ) → cond (o₂ n) true (o₁ n) ≡ o₃ n) where
  pub weights-join : (l : List Float) → computed_weights s o₂ (computed_weights s o₁ l) ≡ computed_weights s o₃ l
  unfolding computed_weights
  weights-join l = patched-join (sizes_of s) (λ i. i % (sizes_of s).cells) o₁ o₂ o₃ (weight_at s) h l

  pub flags-join : (l : List ℤ) → computed_flags s o₂ (computed_flags s o₁ l) ≡ computed_flags s o₃ l
  unfolding computed_flags
  flags-join l = patched-join (sizes_of s) (λ j. j) o₁ o₂ o₃ (flag_at s) h l

module _ (s : Study) (o : ℕ → Bool) where
  pub weights-nothing : ((n : ℕ) → o n ≡ false) → (l : List Float) → l ≡ computed_weights s o l
  unfolding computed_weights
  weights-nothing h l = patched-none (sizes_of s) (λ i. i % (sizes_of s).cells) o (weight_at s) h l

  pub flags-nothing : ((n : ℕ) → o n ≡ false) → (l : List ℤ) → l ≡ computed_flags s o l
  unfolding computed_flags
  flags-nothing h l = patched-none (sizes_of s) (λ j. j) o (flag_at s) h l

  pub length-computed : (l : List Float) → length (computed_weights s o l) ≡ length l
  unfolding computed_weights
  length-computed l = patched-length (sizes_of s) (λ i. i % (sizes_of s).cells) o (weight_at s) l

  pub length-computed-flags : (l : List ℤ) → length (computed_flags s o l) ≡ length l
  unfolding computed_flags
  length-computed-flags l = patched-length (sizes_of s) (λ j. j) o (flag_at s) l

-- the same pieces are computed
module _ (s : Study) (o₁ o₂ : ℕ → Bool) (h : (n : ℕ) → o₁ n ≡ o₂ n) where
  pub weights-alike : (l : List Float) → computed_weights s o₁ l ≡ computed_weights s o₂ l
  unfolding computed_weights
  weights-alike l = patched-alike (sizes_of s) (λ i. i % (sizes_of s).cells) o₁ o₂ (weight_at s) h l

  pub flags-alike : (l : List ℤ) → computed_flags s o₁ l ≡ computed_flags s o₂ l
  unfolding computed_flags
  flags-alike l = patched-alike (sizes_of s) (λ j. j) o₁ o₂ (flag_at s) h l

-- ---- weights and flags together

-- a piece that is written by its outputs, with the counts of the study
pub written-computed : (s : Study) {z : Sizes} → z ≡ sizes_of s → (t b1 b2 : ℕ) {q : ℕ} {o : ℕ → Outputs} → ((x : ℕ) → o x ≡ outputs_of s t b1 b2 x)
    → b1 < z.bands1 → b2 < z.bands2 → q ≡ t * z.pairs + (b1 * z.bands2 + b2)
    → {w : List Float} {f : List ℤ} {w' : List Float} {f' : List ℤ} → AreWritten z q o w f w' f' → AreComputed s (λ n. eqb n q) w f w' f'
written-computed s {z} c t b1 b2 {q} {o} h h1 h2 e {w} {f} a =
    let g1 : b1 < bands1_in s = rw (c, bands1-of s) at h1 in
    let g2 : b2 < bands2_in s = rw (c, bands2-of s) at h2 in
    let g : q ≡ t * (sizes_of s).pairs + (b1 * bands2_in s + b2) = rw (c, bands2-of s) at e in
    record {
      weights-are = a.weights-are ∙ weights-same z q o (outputs_of s t b1 b2) h w ∙ ap (λ (y : Sizes). piece_weights y q (outputs_of s t b1 b2) w) c ∙ piece-weights s t b1 b2 q g1 g2 g w;
      flags-are = a.flags-are ∙ flags-same z q o (outputs_of s t b1 b2) h f ∙ ap (λ (y : Sizes). piece_flags y q (outputs_of s t b1 b2) f) c ∙ piece-flags s t b1 b2 q g1 g2 g f;
    }

-- no piece, and then some more
pub computed-none : (s : Study) (o : ℕ → Bool) → ((n : ℕ) → o n ≡ false) → (w : List Float) (f : List ℤ) → AreComputed s o w f w f
computed-none s o h w f = record { weights-are = weights-nothing s o h w; flags-are = flags-nothing s o h f }

pub computed-join : (s : Study) (o₁ o₂ o₃ : ℕ → Bool) → ((n : ℕ) → cond (o₂ n) true (o₁ n) ≡ o₃ n)
    → {w₀ : List Float} {f₀ : List ℤ} {w : List Float} {f : List ℤ} {w' : List Float} {f' : List ℤ}
    → AreComputed s o₁ w₀ f₀ w f → AreComputed s o₂ w f w' f' → AreComputed s o₃ w₀ f₀ w' f'
computed-join s o₁ o₂ o₃ h {w₀} {f₀} a b = record {
  weights-are = b.weights-are ∙ ap (computed_weights s o₂) a.weights-are ∙ weights-join s o₁ o₂ o₃ h w₀;
  flags-are = b.flags-are ∙ ap (computed_flags s o₂) a.flags-are ∙ flags-join s o₁ o₂ o₃ h f₀;
}

pub computed-alike : (s : Study) (o₁ o₂ : ℕ → Bool) → ((n : ℕ) → o₁ n ≡ o₂ n)
    → {w : List Float} {f : List ℤ} {w' : List Float} {f' : List ℤ} → AreComputed s o₁ w f w' f' → AreComputed s o₂ w f w' f'
computed-alike s o₁ o₂ h {w} {f} a =
    record { weights-are = a.weights-are ∙ weights-alike s o₁ o₂ h w; flags-are = a.flags-are ∙ flags-alike s o₁ o₂ h f }

pub computed-lengths : {s : Study} {o : ℕ → Bool} {w : List Float} {f : List ℤ} {w' : List Float} {f' : List ℤ} → AreComputed s o w f w' f'
    → (length w' ≡ length w) × (length f' ≡ length f)
computed-lengths {s} {o} {w} {f} a = (ap length a.weights-are ∙ length-computed s o w, ap length a.flags-are ∙ length-computed-flags s o f)
