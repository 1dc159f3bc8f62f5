-- A row among chunks of four, a sorted row by its four values, and what a row adds: never a NaN. Assumes nothing.
use mathlib.Core.Path.{◌≡◌, refl, ◌∙◌, ap}
use mathlib.Core.Bool.{Bool, true, false, cond}
use mathlib.Core.List.{List, [], ◌∷◌}
use Prim.Native.Nat.{ℕ, zero, suc, ◌+◌, ◌*◌, ◌<◌, ◌≤◌}
use native.Mathlib.Omega.{arith}
use lib.ListN.{get_or, length, take, drop}
use lib.Seq.{get_or-drop}
use Rattle.std.proofs.lemmas.List.{length-drop}
use Rattle.std.specs.Simd.{first_chunks}
use lib.Ieee.{Float, nan, ne, is_nan, of_bits}
use Rattle.ieee_laws.specs.Zeros.{zero_f}
use Rattle.ieee_laws.proofs.NanLaws.{no_nan}
use Rattle.tetrahedron_fractions.specs.Branch.{values}
use Rattle.tetrahedron_sort.specs.Sort.{sorted_of}
use Rattle.tetrahedron_method.specs.Weight.{or_zero, row_of}

-- a sorted row is its four values
pub four-values : (row : List Float) → values (get_or (sorted_of row) 0 nan) (get_or (sorted_of row) 1 nan) (get_or (sorted_of row) 2 nan) (get_or (sorted_of row) 3 nan) ≡ sorted_of row
unfolding sorted_of
four-values row = refl

-- what a row adds is a number
pub row_number : (p : Float) → is_nan (or_zero p) ≡ false
unfolding or_zero of_bits is_nan
row_number p = go (ne p p) refl
  where
    go : (t : Bool) → ne p p ≡ t → is_nan (cond t zero_f p) ≡ false
    go true e = refl
    go false e = no_nan p e

first-row : (a : List Float) → 4 ≤ length a → take 4 a ≡ row_of a 0
first-row (x ∷ y ∷ z ∷ w ∷ a) h = refl
first-row [] h = absurd (omega (arith, h))
first-row (x ∷ []) h = absurd (omega (arith, h))
first-row (x ∷ y ∷ []) h = absurd (omega (arith, h))
first-row (x ∷ y ∷ z ∷ []) h = absurd (omega (arith, h))

next-row : (a : List Float) (k : ℕ) → row_of (drop 4 a) k ≡ row_of a (suc k)
next-row a k =
    let e : (i j : ℕ) → 4 + i ≡ j → get_or (drop 4 a) i nan ≡ get_or a j nan = λ i j q. get_or-drop 4 a i nan ∙ ap (λ (m : ℕ). get_or a m nan) q in
    rw (e (k * 4) (suc k * 4) (omega arith), e (k * 4 + 1) (suc k * 4 + 1) (omega arith), e (k * 4 + 2) (suc k * 4 + 2) (omega arith), e (k * 4 + 3) (suc k * 4 + 3) (omega arith))

-- a chunk of four values is a row
pub chunk_row : (n k : ℕ) (a : List Float) → k < n → n * 4 ≤ length a → get_or (first_chunks 4 n a) k [] ≡ row_of a k
chunk_row zero k a l h = absurd (omega arith)
chunk_row (suc n) zero a l h = first-row a (omega (arith, h))
chunk_row (suc n) (suc k) a l h = chunk_row n k (drop 4 a) (omega arith) (omega (arith, h, length-drop 4 a)) ∙ next-row a k
