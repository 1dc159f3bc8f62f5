-- The loop that writes a cell's weights, and the loop over the points of a piece, as patches. Assumes nothing.
use mathlib.Core.Path.{◌≡◌, refl, sym, ap, ◌∙◌}
use mathlib.Core.Bool.{Bool, true, false, cond}
use mathlib.Core.List.{List}
use Prim.Native.Nat.{ℕ, ◌+◌, ◌*◌, ◌/◌, ◌%◌, ◌≤◌, ◌<◌}
use native.Mathlib.Nat.{div-add-mod', mod-lt, div-lt_iff_lt-mul, le-mul_of_pos_right}
use native.Mathlib.Omega.{arith}
use lib.Arith.{digits_div, digits_mod, digits_lt}
use lib.Dec.{eqb, ltb}
use lib.Ieee.{Float}
use lib.IntN.{ℤ}
use lib.ListN.{length, set}
use borrow.Author.Tests.{eq-eqb, lt-ltb, le-ltb, ltb-true, ltb-false, eqb-true, eqb-false}
use Rattle.list_laws.specs.Patch.{patch}
use Rattle.list_laws.proofs.PatchLaws.{length-patch, patch-more, patch-none, patch-ext, patch-patch}
use Rattle.list_laws.proofs.StrideLaws.{digits-eq, strided, strided-last, strided-else, both-none, both-all}
use Rattle.triplet_outputs.specs.declared.Outputs.{Outputs}
use Rattle.triplet_study.specs.declared.Sizes.{Sizes}
use Rattle.triplet_study.specs.Tested.{Counted}
use Rattle.triplet_piece.specs.Layout.{triplet_at, point_at, pair_at, piece_at, cell_of, channel_of, cell_weights, patch_pieces, weight_by, flag_by, piece_weights, piece_flags}

-- ---- the weights of one cell

-- the weights once the first n channels of a cell are written
unfoldable pub some_channels : ℕ → ℕ → Outputs → ℕ → List Float → List Float
some_channels m j o n l = patch (strided m j n) (λ i. channel_of o (i / m)) l

module _ (m j : ℕ) (o : Outputs) (l : List Float) (hj : j < m) where
  pub channels-none : l ≡ some_channels m j o 0 l
  unfolding some_channels
  channels-none = sym (patch-none (strided m j 0) (λ i. channel_of o (i / m)) l (λ i b. both-none (eqb (i % m) j) (i / m)))

  pub channels-more : (n : ℕ) → set (some_channels m j o n l) (n * m + j) (channel_of o n) ≡ some_channels m j o (n + 1) l
  unfolding some_channels
  channels-more n =
      patch-more (strided m j n) (strided m j (n + 1)) (λ i. channel_of o (i / m)) l (n * m + j) (channel_of o n)
      (ap (channel_of o) (digits_div n hj)) (strided-last m j n hj) (λ i b ne. strided-else m j n i ne)

  pub channels-all : (n : ℕ) → length l ≡ n * m → some_channels m j o n l ≡ cell_weights m j o l
  unfolding some_channels cell_weights
  channels-all n e =
      patch-ext (strided m j n) (λ i. channel_of o (i / m)) (λ i. eqb (i % m) j) (λ i. channel_of o (i / m)) l
      (λ i b x. let h : i / m < n = (div-lt_iff_lt-mul (omega arith)).1 (omega arith) in rw (both-all (eqb (i % m) j) (i / m) n h))

-- ---- a piece's cell at point x

module _ (p b t k x : ℕ) (hk : k < b) (hx : x < p) where
  pub triplet-cell : triplet_at p b (cell_of p b t k x) ≡ t
  unfolding triplet_at
  triplet-cell = rw (digits_div (t * p + x) hk, digits_div t hx)

  pub pair-cell : pair_at p b (cell_of p b t k x) ≡ k
  unfolding pair_at
  pair-cell = digits_mod (t * p + x) hk

  pub piece-cell : piece_at p b (cell_of p b t k x) ≡ t * b + k
  unfolding piece_at
  piece-cell = rw (triplet-cell, pair-cell)

  pub point-cell : point_at p b (cell_of p b t k x) ≡ x
  unfolding point_at
  point-cell = rw (digits_div (t * p + x) hk, digits_mod t hx)

-- a cell's triplet and band pair, from the number of its piece
pub piece_is : (p b t k j : ℕ) → k < b → piece_at p b j ≡ t * b + k → (triplet_at p b j ≡ t) × (pair_at p b j ≡ k)
unfolding piece_at pair_at
piece_is p b t k j hk e = digits-eq (mod-lt j (omega arith)) hk e

-- a cell of that piece and that point is that cell
pub cell-only : (p b t k x : ℕ) → k < b → x < p → (j : ℕ) → piece_at p b j ≡ t * b + k → point_at p b j ≡ x → j ≡ cell_of p b t k x
unfolding piece_at point_at triplet_at pair_at
cell-only p b t k x hk hx j e f =
    let d : (j / b / p ≡ t) × (j % b ≡ k) = digits-eq (mod-lt j (omega arith)) hk e in
    let r : j / b ≡ t * p + x = sym (div-add-mod' (j / b) p) ∙ rw (d.0, f) in
    sym (div-add-mod' j b) ∙ rw (r, d.1)

pub cell-lt : (p b t k x : ℕ) {n : ℕ} → k < b → x < p → t < n → cell_of p b t k x < n * p * b
cell-lt p b t k x hk hx ht = digits_lt (digits_lt ht hx) hk

pub point-lt : (p b j : ℕ) → 0 < p → point_at p b j < p
unfolding point_at
point-lt p b j h = mod-lt (j / b) h

-- ---- a list with the entries of some pieces

joined : {A : Type 0} (a b c : Bool) (x y : A) → cond a true b ≡ c → cond a x (cond b x y) ≡ cond c x y
joined true b c x y e = rw (← e)
joined false b c x y e = rw e

-- the piece of place i
abbrev piece_by : Sizes → (ℕ → ℕ) → ℕ → ℕ
piece_by z cell i = piece_at z.points z.pairs (cell i)

module _ {A : Type 0} (z : Sizes) (cell : ℕ → ℕ) where
  pub patched-length : (own : ℕ → Bool) (value : ℕ → A) (l : List A) → length (patch_pieces z cell own value l) ≡ length l
  patched-length own value l = length-patch (λ i. own (piece_by z cell i)) value l

  pub patched-none : (own : ℕ → Bool) (value : ℕ → A) → ((n : ℕ) → own n ≡ false) → (l : List A) → l ≡ patch_pieces z cell own value l
  patched-none own value h l = sym (patch-none (λ i. own (piece_by z cell i)) value l (λ i _. h (piece_by z cell i)))

  pub patched-alike : (o₁ o₂ : ℕ → Bool) (value : ℕ → A) → ((n : ℕ) → o₁ n ≡ o₂ n) → (l : List A) → patch_pieces z cell o₁ value l ≡ patch_pieces z cell o₂ value l
  patched-alike o₁ o₂ value h l = patch-ext (λ i. o₁ (piece_by z cell i)) value (λ i. o₂ (piece_by z cell i)) value l (λ i _ y. rw (h (piece_by z cell i)))

  -- the same values where they are written
  pub patched_same : (own : ℕ → Bool) (u v : ℕ → A) → ((i : ℕ) → own (piece_by z cell i) ≡ true → u i ≡ v i) → (l : List A) → patch_pieces z cell own u l ≡ patch_pieces z cell own v l
  patched_same own u v h l = patch-ext (λ i. own (piece_by z cell i)) u (λ i. own (piece_by z cell i)) v l (λ i _ y. go i y (own (piece_by z cell i)) refl)
    where
      go : (i : ℕ) (y : A) (b : Bool) → own (piece_by z cell i) ≡ b → cond b (u i) y ≡ cond b (v i) y
      go i y true e = h i e
      go i y false e = refl

  -- pieces that are written one after the other
  pub patched-join : (o₁ o₂ o₃ : ℕ → Bool) (value : ℕ → A) → ((n : ℕ) → cond (o₂ n) true (o₁ n) ≡ o₃ n) → (l : List A)
      → patch_pieces z cell o₂ value (patch_pieces z cell o₁ value l) ≡ patch_pieces z cell o₃ value l
  patched-join o₁ o₂ o₃ value h l =
      patch-patch (λ i. o₁ (piece_by z cell i)) value (λ i. o₂ (piece_by z cell i)) value (λ i. o₃ (piece_by z cell i)) value l
      (λ i _ y. joined (o₂ (piece_by z cell i)) (o₁ (piece_by z cell i)) (o₃ (piece_by z cell i)) (value i) y (h (piece_by z cell i)))

-- ---- the points of a piece, one after the other

-- cell j is of piece q, at one of the first n points
abbrev pub reached : Sizes → ℕ → ℕ → ℕ → Bool
reached z q n j = cond (eqb (piece_at z.points z.pairs j) q) (ltb (point_at z.points z.pairs j) n) false

-- a list once the first n points of piece q are written, place i being of cell `cell i`
abbrev patch_points : {A : Type 0} → Sizes → (ℕ → ℕ) → ℕ → ℕ → (ℕ → A) → List A → List A
patch_points z cell q n value l = patch (λ i. reached z q n (cell i)) value l

module _ {A : Type 0} (z : Sizes) (cell : ℕ → ℕ) (q : ℕ) (value : ℕ → A) (l : List A) where
  points_none : l ≡ patch_points z cell q 0 value l
  points_none =
      sym (patch-none (λ i. reached z q 0 (cell i)) value l
      (λ i _. both-none (eqb (piece_at z.points z.pairs (cell i)) q) (point_at z.points z.pairs (cell i))))

  points-all : 0 < z.points → patch_points z cell q z.points value l ≡ patch_pieces z cell (λ n. eqb n q) value l
  points-all h =
      patch-ext (λ i. reached z q z.points (cell i)) value (λ i. eqb (piece_at z.points z.pairs (cell i)) q) value l
      (λ i _ y. rw (both-all (eqb (piece_at z.points z.pairs (cell i)) q) (point_at z.points z.pairs (cell i)) z.points (point-lt z.points z.pairs (cell i) h)))

-- the weights and the flags once the first n points of piece q are written
unfoldable pub some_weights : Sizes → ℕ → (ℕ → Outputs) → ℕ → List Float → List Float
some_weights z q o n l = patch_points z (λ i. i % z.cells) q n (weight_by z o) l

unfoldable pub some_flags : Sizes → ℕ → (ℕ → Outputs) → ℕ → List ℤ → List ℤ
some_flags z q o n l = patch_points z (λ j. j) q n (flag_by z o) l

module _ (z : Sizes) (o : ℕ → Outputs) (t k x : ℕ) (hk : k < z.pairs) (hx : x < z.points) where
  here : reached z (t * z.pairs + k) (x + 1) (cell_of z.points z.pairs t k x) ≡ true
  here =
      rw (piece-cell z.points z.pairs t k x hk hx, point-cell z.points z.pairs t k x hk hx, eq-eqb (t * z.pairs + k) (t * z.pairs + k) refl, lt-ltb x (x + 1) (omega arith))

  elsewhere : (j : ℕ) → (j ≡ cell_of z.points z.pairs t k x → ⊥) → reached z (t * z.pairs + k) (x + 1) j ≡ reached z (t * z.pairs + k) x j
  elsewhere j ne = go (eqb (piece_at z.points z.pairs j) (t * z.pairs + k)) refl (ltb (point_at z.points z.pairs j) x) refl
    where
      go : (u : Bool) → eqb (piece_at z.points z.pairs j) (t * z.pairs + k) ≡ u → (v : Bool) → ltb (point_at z.points z.pairs j) x ≡ v
          → reached z (t * z.pairs + k) (x + 1) j ≡ reached z (t * z.pairs + k) x j
      go false e v f = rw e
      go true e true f =
          let l : point_at z.points z.pairs j < x = ltb-true (point_at z.points z.pairs j) x f in
          rw (e, f, lt-ltb (point_at z.points z.pairs j) (x + 1) (omega arith))
      go true e false f =
          let l : x ≤ point_at z.points z.pairs j = ltb-false (point_at z.points z.pairs j) x f in
          let r : piece_at z.points z.pairs j ≡ t * z.pairs + k = eqb-true (piece_at z.points z.pairs j) (t * z.pairs + k) e in
          let n : point_at z.points z.pairs j ≡ x → ⊥ = λ q. ne (cell-only z.points z.pairs t k x hk hx j r q) in
          rw (e, f, le-ltb (point_at z.points z.pairs j) (x + 1) (omega arith))

  pub flags-more : (l : List ℤ) (v : ℤ) → (o x).flag ≡ v → set (some_flags z (t * z.pairs + k) o x l) (cell_of z.points z.pairs t k x) v
      ≡ some_flags z (t * z.pairs + k) o (x + 1) l
  unfolding some_flags
  flags-more l v e =
      patch-more (reached z (t * z.pairs + k) x) (reached z (t * z.pairs + k) (x + 1)) (flag_by z o) l (cell_of z.points z.pairs t k x) v
      (rw (flag_by, point-cell z.points z.pairs t k x hk hx) e) here (λ j _ ne. elsewhere j ne)

  pub weights-more : (l : List Float) (v : Outputs) → o x ≡ v → cell_weights z.cells (cell_of z.points z.pairs t k x) v (some_weights z (t * z.pairs + k) o x l)
      ≡ some_weights z (t * z.pairs + k) o (x + 1) l
  unfolding some_weights cell_weights
  weights-more l v q =
      patch-patch (λ i. reached z (t * z.pairs + k) x (i % z.cells)) (weight_by z o)
      (λ i. eqb (i % z.cells) (cell_of z.points z.pairs t k x)) (λ i. channel_of v (i / z.cells))
      (λ i. reached z (t * z.pairs + k) (x + 1) (i % z.cells)) (weight_by z o) l
      (λ i _ y. go i y (eqb (i % z.cells) (cell_of z.points z.pairs t k x)) refl)
    where
      go : (i : ℕ) (y : Float) (u : Bool) → eqb (i % z.cells) (cell_of z.points z.pairs t k x) ≡ u
          → cond u (channel_of v (i / z.cells)) (cond (reached z (t * z.pairs + k) x (i % z.cells)) (weight_by z o i) y)
          ≡ cond (reached z (t * z.pairs + k) (x + 1) (i % z.cells)) (weight_by z o i) y
      go i y true e =
          let r : i % z.cells ≡ cell_of z.points z.pairs t k x = eqb-true (i % z.cells) (cell_of z.points z.pairs t k x) e in
          rw (r, here, point-cell z.points z.pairs t k x hk hx, q)
      go i y false e = rw (elsewhere (i % z.cells) (eqb-false (i % z.cells) (cell_of z.points z.pairs t k x) e))

module _ (z : Sizes) (q : ℕ) (o : ℕ → Outputs) where
  pub flags-none : (l : List ℤ) → l ≡ some_flags z q o 0 l
  unfolding some_flags
  flags-none l = points_none z (λ j. j) q (flag_by z o) l

  pub weights-none : (l : List Float) → l ≡ some_weights z q o 0 l
  unfolding some_weights
  weights-none l = points_none z (λ i. i % z.cells) q (weight_by z o) l

  pub flags-all : (l : List ℤ) → 0 < z.points → some_flags z q o z.points l ≡ piece_flags z q o l
  unfolding some_flags piece_flags
  flags-all l h = points-all z (λ j. j) q (flag_by z o) l h

  pub weights-all : (l : List Float) → 0 < z.points → some_weights z q o z.points l ≡ piece_weights z q o l
  unfolding some_weights piece_weights
  weights-all l h = points-all z (λ i. i % z.cells) q (weight_by z o) l h

  pub length_some : (n : ℕ) (l : List Float) → length (some_weights z q o n l) ≡ length l
  unfolding some_weights
  length_some n l = length-patch (λ i. reached z q n (i % z.cells)) (weight_by z o) l

  pub length-some-flags : (n : ℕ) (l : List ℤ) → length (some_flags z q o n l) ≡ length l
  unfolding some_flags
  length-some-flags n l = length-patch (reached z q n) (flag_by z o) l

-- pieces with the same outputs are written alike
module _ (z : Sizes) (q : ℕ) (o o' : ℕ → Outputs) (e : (x : ℕ) → o x ≡ o' x) where
  pub weights-same : (l : List Float) → piece_weights z q o l ≡ piece_weights z q o' l
  unfolding piece_weights
  weights-same l =
      patched_same z (λ i. i % z.cells) (λ n. eqb n q) (weight_by z o) (weight_by z o')
      (λ i _. ap (λ (v : Outputs). channel_of v (i / z.cells)) (e (point_at z.points z.pairs (i % z.cells)))) l

  pub flags-same : (l : List ℤ) → piece_flags z q o l ≡ piece_flags z q o' l
  unfolding piece_flags
  flags-same l =
      patched_same z (λ j. j) (λ n. eqb n q) (flag_by z o) (flag_by z o')
      (λ j _. ap (λ (v : Outputs). v.flag) (e (point_at z.points z.pairs j))) l

-- ---- places are within their buffers

module _ (z : Sizes) (f : Counted z) (t k x : ℕ) (ht : t < z.triplets) (hk : k < z.pairs) (hx : x < z.points) where
  pub cell_in : cell_of z.points z.pairs t k x < z.cells
  cell_in = rw f.cells_are (cell-lt z.points z.pairs t k x hk hx ht)

  pub row_in : t * z.points + x ≤ (t * z.points + x) * z.pairs
  row_in = le-mul_of_pos_right (t * z.points + x) (omega arith)
