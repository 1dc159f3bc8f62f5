-- The turns of the loops over the pieces of a triplet and over the triplets. Assumes nothing.
use mathlib.Core.Path.{◌≡◌, refl, sym, ap, ◌∙◌}
use mathlib.Core.Bool.{Bool, true, false, cond}
use mathlib.Core.List.{List}
use Prim.Native.Nat.{ℕ, ◌+◌, ◌*◌, ◌/◌, ◌%◌, ◌≤◌, ◌<◌}
use native.Mathlib.Nat.{div-add-mod', mod-lt, div-lt_iff_lt-mul}
use native.Mathlib.Omega.{arith}
use lib.Arith.{digits_div, digits_mod}
use lib.Dec.{eqb, ltb}
use lib.Ieee.{Float}
use lib.IntN.{ℤ}
use lib.ListN.{length}
use borrow.Author.Tests.{eq-eqb, lt-ltb, le-ltb, ltb-true, ltb-false, eqb-true, eqb-false}
use Rattle.list_laws.proofs.StrideLaws.{both-none, both-all}
use Rattle.triplet_values.specs.Values.{Held}
use Rattle.triplet_study.specs.declared.Sizes.{Sizes}
use Rattle.triplet_study.specs.declared.tested.TestedStudy.{TestedStudy}
use Rattle.triplet_study.specs.Study.{Study, tp_in, grid_in, bands1_in, bands2_in}
use Rattle.triplet_study.specs.Lent.{study_of}
use Rattle.triplet_study.specs.Tested.{Tested, Counted}
use Rattle.triplet_study.proofs.StudyLaws.{rows_of, bands1-of, bands2-of}
use Rattle.triplet_study.proofs.TestedLaws.{tested-keeps, tested-counted}
use Rattle.question_grids.specs.Tables.{rows_in}
use Rattle.triplet_corners.specs.Corners.{second_steps}
use Rattle.triplet_corners.proofs.CornerLaws.{corners-held, second-length}
use Rattle.triplet_piece.specs.declared.Corners.{Corners}
use Rattle.triplet_piece.specs.declared.Piece.{Piece}
use Rattle.triplet_piece.specs.Layout.{AreWritten}
use Rattle.triplet_piece.specs.Pieces.{AreCornersOf, IsPiece, IsHeld, number_of, outputs_of_piece}
use Rattle.triplet_piece.specs.Weights.{outputs_of, AreComputed}
use Rattle.triplet_piece.proofs.WeightLaws.{written-computed, computed-none, computed-join, computed-alike}

-- ---- which pieces

-- piece n is one of the first k of triplet t
abbrev pub in_triplet : ℕ → ℕ → ℕ → ℕ → Bool
in_triplet pairs t k n = cond (eqb (n / pairs) t) (ltb (n % pairs) k) false

in-next : (pairs t k n : ℕ) → k < pairs → cond (eqb n (t * pairs + k)) true (in_triplet pairs t k n) ≡ in_triplet pairs t (k + 1) n
in-next pairs t k n h = go (eqb n (t * pairs + k)) refl (eqb (n / pairs) t) refl (ltb (n % pairs) k) refl
  where
    go : (a : Bool) → eqb n (t * pairs + k) ≡ a → (b : Bool) → eqb (n / pairs) t ≡ b → (d : Bool) → ltb (n % pairs) k ≡ d
        → cond a true (cond b d false) ≡ cond b (ltb (n % pairs) (k + 1)) false
    go true e b f d g =
        let q : n ≡ t * pairs + k = eqb-true n (t * pairs + k) e in
        let x : n / pairs ≡ t = ap (λ (m : ℕ). m / pairs) q ∙ digits_div t h in
        let y : n % pairs ≡ k = ap (λ (m : ℕ). m % pairs) q ∙ digits_mod t h in
        let b1 : b ≡ true = sym f ∙ eq-eqb (n / pairs) t x in
        rw (b1, lt-ltb (n % pairs) (k + 1) (omega arith))
    go false e false f d g = refl
    go false e true f true g = sym (lt-ltb (n % pairs) (k + 1) (let l : n % pairs < k = ltb-true (n % pairs) k g in omega arith))
    go false e true f false g =
        let l : k ≤ n % pairs = ltb-false (n % pairs) k g in
        let x : n / pairs ≡ t = eqb-true (n / pairs) t f in
        let ne : n % pairs ≡ k → ⊥ = λ y. eqb-false n (t * pairs + k) e (sym (div-add-mod' n pairs) ∙ rw (x, y)) in
        sym (le-ltb (n % pairs) (k + 1) (omega arith))

triplet-next : (q t : ℕ) → cond (eqb q t) true (ltb q t) ≡ ltb q (t + 1)
triplet-next q t = go (eqb q t) refl (ltb q t) refl
  where
    go : (a : Bool) → eqb q t ≡ a → (b : Bool) → ltb q t ≡ b → cond a true b ≡ ltb q (t + 1)
    go true e b f = let x : q ≡ t = eqb-true q t e in sym (lt-ltb q (t + 1) (omega arith))
    go false e true f = let l : q < t = ltb-true q t f in sym (lt-ltb q (t + 1) (omega arith))
    go false e false f =
        let l : t ≤ q = ltb-false q t f in
        let ne : q ≡ t → ⊥ = eqb-false q t e in
        sym (le-ltb q (t + 1) (omega arith))

pub band-lt : (k bands1 bands2 : ℕ) → 1 ≤ bands2 → k < bands1 * bands2 → k / bands2 < bands1
band-lt k bands1 bands2 h l = (div-lt_iff_lt-mul {k = bands2} {x = k} {y = bands1} h).1 l

-- the bands of pair k
pub pair-bands : {z : Sizes} → Counted z → (k : ℕ) → k < z.pairs → (k / z.bands2 < z.bands1) × (k % z.bands2 < z.bands2)
pair-bands {z} c k h = (band-lt k z.bands1 z.bands2 c.bands2-some (rw (← c.pairs-are) h), mod-lt k c.bands2-some)

-- ---- a piece by the corners of its triplet

module _ (t : TestedStudy) (c : Corners) (p : Piece) (e : AreCornersOf (study_of t.study) p.triplet c) (h : IsPiece t.sizes p) where
  abbrev s : Study
  s = study_of t.study

  keeps : Tested s
  keeps = tested-keeps t

  -- each corner has its frequency of the piece's band
  held_first : Held c.first (t.sizes.rows * 4) (length s.frequencies1) t.sizes.bands1 p.b1
  held_first =
      let k : p.b1 < bands1_in s = rw (t.counts, bands1-of s) at h.1.0 in
      rw (e.0, t.counts, rows_of s, bands1-of s)
      (corners-held (grid_in s) s.addresses s.gp-map keeps.grid s.steps _ (rows_in s.steps) (bands1_in s) p.b1 (length s.frequencies1) keeps.rows_whole keeps.held1 k)

  held-second : Held c.second (t.sizes.rows * 4) (length s.frequencies2) t.sizes.bands2 p.b2
  held-second =
      let k : p.b2 < bands2_in s = rw (t.counts, bands2-of s) at h.1.1 in
      rw (e.1, t.counts, rows_of s, bands2-of s)
      (corners-held (grid_in s) s.addresses s.gp-map keeps.grid (second_steps (tp_in s) s.steps) _ (rows_in s.steps) (bands2_in s) p.b2 (length s.frequencies2) (second-length (tp_in s) s.steps ∙ keeps.rows_whole) keeps.held2 k)

  pub is-held : IsHeld t.sizes s.frequencies1 s.frequencies2 c p
  is-held = (held_first, held-second)

  -- written by its corners it is computed
  pub corners-computed : {w : List Float} {f : List ℤ} {w' : List Float} {f' : List ℤ}
      → AreWritten t.sizes (number_of t.sizes p) (outputs_of_piece t.sizes s.frequencies1 s.frequencies2 s.points c p) w f w' f' → AreComputed s (λ n. eqb n (number_of t.sizes p)) w f w' f'
  unfolding outputs_of
  corners-computed = written-computed s t.counts p.triplet p.b1 p.b2 outs h.1.0 h.1.1 refl
    where
      outs : (x : ℕ) → outputs_of_piece t.sizes s.frequencies1 s.frequencies2 s.points c p x ≡ outputs_of s p.triplet p.b1 p.b2 x
      outs x = rw (e.0, e.1, t.counts)

-- ---- the pieces of a triplet

-- piece k of triplet q
abbrev pub piece_of : Sizes → ℕ → ℕ → Piece
piece_of z q k = record { triplet = q; b1 = k / z.bands2; b2 = k % z.bands2 }

module _ (t : TestedStudy) (q k : ℕ) (hq : q < t.sizes.triplets) (hk : k < t.sizes.pairs) where
  pub piece-in : IsPiece t.sizes (piece_of t.sizes q k)
  piece-in = (hq, pair-bands (tested-counted t) k hk)

  -- written by its corners after those before it
  pub pieces_more : (c : Corners) → AreCornersOf (study_of t.study) q c
      → {w₀ : List Float} {f₀ : List ℤ} {w : List Float} {f : List ℤ} {w' : List Float} {f' : List ℤ}
      → AreComputed (study_of t.study) (in_triplet t.sizes.pairs q k) w₀ f₀ w f
      → AreWritten t.sizes (number_of t.sizes (piece_of t.sizes q k)) (outputs_of_piece t.sizes t.study.frequencies1.now t.study.frequencies2.now t.study.frequency_points.now c (piece_of t.sizes q k)) w f w' f'
      → AreComputed (study_of t.study) (in_triplet t.sizes.pairs q (k + 1)) w₀ f₀ w' f'
  pieces_more c e a b =
      let n : ℕ = number_of t.sizes (piece_of t.sizes q k) in
      let number : n ≡ q * t.sizes.pairs + k = ap (λ (m : ℕ). q * t.sizes.pairs + m) (div-add-mod' k t.sizes.bands2) in
      computed-join (study_of t.study) (in_triplet t.sizes.pairs q k) (λ m. eqb m n) (in_triplet t.sizes.pairs q (k + 1)) (λ m. rw number (in-next t.sizes.pairs q k m hk)) a
      (corners-computed t c (piece_of t.sizes q k) e piece-in b)

module _ (s : Study) (pairs t : ℕ) where
  pub pieces_none : (w : List Float) (f : List ℤ) → AreComputed s (in_triplet pairs t 0) w f w f
  pieces_none = computed-none s (in_triplet pairs t 0) (λ n. both-none (eqb (n / pairs) t) (n % pairs))

  pub pieces-all : {w : List Float} {f : List ℤ} {w' : List Float} {f' : List ℤ} (k : ℕ) → k ≡ pairs → 1 ≤ pairs
      → AreComputed s (in_triplet pairs t k) w f w' f' → AreComputed s (λ n. eqb (n / pairs) t) w f w' f'
  pieces-all k e h = computed-alike s (in_triplet pairs t k) (λ n. eqb (n / pairs) t) (λ n. rw e (both-all (eqb (n / pairs) t) (n % pairs) pairs (mod-lt n h)))

  -- ---- the triplets

  pub triplets-more : {w₀ : List Float} {f₀ : List ℤ} {w : List Float} {f : List ℤ} {w' : List Float} {f' : List ℤ}
      → AreComputed s (λ n. ltb (n / pairs) t) w₀ f₀ w f → AreComputed s (λ n. eqb (n / pairs) t) w f w' f' → AreComputed s (λ n. ltb (n / pairs) (t + 1)) w₀ f₀ w' f'
  triplets-more = computed-join s (λ n. ltb (n / pairs) t) (λ n. eqb (n / pairs) t) (λ n. ltb (n / pairs) (t + 1)) (λ n. triplet-next (n / pairs) t)

pub triplets-none : (s : Study) (pairs : ℕ) (w : List Float) (f : List ℤ) → AreComputed s (λ n. ltb (n / pairs) 0) w f w f
triplets-none s pairs = computed-none s (λ n. ltb (n / pairs) 0) (λ n. le-ltb (n / pairs) 0 (omega arith))
