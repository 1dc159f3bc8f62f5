-- Where a place of weights or flags belongs: its piece, its row of band pairs. Assumes nothing.
use mathlib.Core.Path.{◌≡◌, ◌∙◌}
use Prim.Native.Nat.{ℕ, zero, suc, ◌+◌, ◌*◌, ◌/◌, ◌%◌, ◌<◌}
use native.Mathlib.Nat.{mod-lt, div-lt_iff_lt-mul, mul-zero, zero-lt-suc}
use native.Mathlib.Omega.{arith}
use lib.Arith.{digits_div, digits_mod, digits_lt, mod-mul}
use Rattle.triplet_piece.specs.Layout.{triplet_at, pair_at, piece_at}

-- a place below a product: the second factor is not 0
pub factor-pos : (i c f : ℕ) → i < c * f → 0 < f
factor-pos i c zero h = let e : c * zero ≡ 0 = mul-zero c in omega arith
factor-pos i c (suc f) h = zero-lt-suc f

-- ---- of p points and b band pairs: the piece of cell j

pub piece-lt : (p b n : ℕ) → 0 < b → 0 < p → (j : ℕ) → j < n * p * b → piece_at p b j < n * b
unfolding piece_at triplet_at pair_at
piece-lt p b n hb hp j h =
    let r : j / b < n * p = (div-lt_iff_lt-mul hb).1 h in
    digits_lt ((div-lt_iff_lt-mul hp).1 r) (mod-lt j hb)

pub piece-div : (p b : ℕ) → 0 < b → (j : ℕ) → piece_at p b j / b ≡ triplet_at p b j
unfolding piece_at triplet_at pair_at
piece-div p b hb j = digits_div (j / b / p) (mod-lt j hb)

-- ---- rows: b places from r * b on

-- the piece of a place in the row of cell j
pub row-piece : (p b j k : ℕ) → k < b → piece_at p b (j / b * b + k) ≡ triplet_at p b j * b + k
unfolding piece_at triplet_at pair_at
row-piece p b j k h = rw (digits_div (j / b) h, digits_mod (j / b) h)

-- and of a place in the row of a weight's, n rows to a channel
module _ (p b n : ℕ) (hb : 0 < b) (hn : 0 < n) where
  wrapped : (r k : ℕ) → k < b → (r * b + k) % (n * b) ≡ r % n * b + k
  wrapped r k h = mod-mul (r * b + k) hn hb ∙ rw (digits_div r h, digits_mod r h)

  wrapped-triplet : (i : ℕ) → triplet_at p b (i % (n * b)) ≡ i / b % n / p
  unfolding triplet_at
  wrapped-triplet i =
      let e : i % (n * b) ≡ i / b % n * b + i % b = mod-mul i hn hb in
      rw (e, digits_div (i / b % n) (mod-lt i hb))

  wrapped-piece : (r k : ℕ) → k < b → piece_at p b ((r * b + k) % (n * b)) ≡ r % n / p * b + k
  unfolding piece_at triplet_at pair_at
  wrapped-piece r k h = rw (wrapped r k h, digits_div (r % n) h, digits_mod (r % n) h)

  pub wrapped-row : (i k : ℕ) → k < b → piece_at p b ((i / b * b + k) % (n * b)) ≡ triplet_at p b (i % (n * b)) * b + k
  wrapped-row i k h = wrapped-piece (i / b) k h ∙ rw (wrapped-triplet i)
