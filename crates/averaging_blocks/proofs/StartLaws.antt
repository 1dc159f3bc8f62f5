-- Sums begun at -0.0, as newer Rust begins them, give the same bits where question 19 says yes. Assumes nothing.
use mathlib.Core.Path.{◌≡◌, refl, sym, ap, ◌∙◌, subst}
use mathlib.Core.Logic.{⊎_elim}
use mathlib.Core.Bool.{false, true}
use mathlib.Core.List.{List}
use Prim.Native.Nat.{ℕ, zero, suc, ◌+◌, ◌-◌, ◌*◌, ◌/◌, ◌%◌, ◌<◌}
use native.Mathlib.Nat.{zero-mul, mul-zero}
use native.Mathlib.Omega.{arith}
use lib.Dec.{T}
use lib.IntN.{ℤ, pos}
use lib.ListN.{length, get_or, drop, length-take, get_or-eq_default}
use lib.Seq.{get_or-take, get_or-drop}
use lib.Ieee.{Float, nan, binary64, add, div, of_int, fits}
use lib.Ieee.Fits.{add-fits}
use Rattle.list_laws.specs.Lists.{part}
use Rattle.list_laws.specs.Matrix.{Block, entries, each_part}
use Rattle.list_laws.proofs.BoolLaws.{lt-or-le}
use Rattle.list_laws.proofs.FillLaws.{tabulate-ext}
use Rattle.list_laws.proofs.MatrixLaws.{each-ext}
use Rattle.ieee_laws.specs.Zeros.{plus_zero, minus_zero, is_negative_zero}
use Rattle.ieee_laws.proofs.ZeroLaws.{minus-zero-add, plus-zero-add, add-not-minus}
use Rattle.question_values.specs.Averages.{are_weights}
use Rattle.question_values.proofs.AverageLaws.{weight-plain}
use Rattle.degenerate_sets.specs.Sets.{starts_at, block_of}
use Rattle.degenerate_sets.specs.Averages.{averaged_by, points_by}
use Rattle.averaging_blocks.specs.Weights.{row_sum, block_sum, mean, averaged_in, averaged_from, averaged, averaged_points}
use Rattle.averaging_blocks.proofs.WeightLaws.{averaged-many, averaged-one}

-- a value of the format that is no negative zero
abbrev pub Plain : Float → Type 0
Plain x = T (fits binary64 x) × (is_negative_zero x ≡ false)

zero-plain : Plain plus_zero
unfolding fits is_negative_zero
zero-plain = (tt, refl)

nan-plain : Plain nan
unfolding fits is_negative_zero
nan-plain = (tt, refl)

add-plain : (x y : Float) → Plain x → Plain y → Plain (add binary64 x y)
add-plain x y p q = (add-fits binary64 x y, add-not-minus binary64 x y p.0 q.0 p.1)

-- one term added to either zero
one-term : (x : Float) → Plain x → add binary64 minus_zero x ≡ add binary64 plus_zero x
one-term x p = minus-zero-add binary64 x p.0 ∙ sym (plus-zero-add binary64 x p.0 p.1)

module _ (m : List Float) (plain : (k : ℕ) → Plain (get_or m k nan)) where
  row_plain : (from wide : ℕ) → Plain (row_sum plus_zero m from wide)
  unfolding row_sum
  row_plain from zero = zero-plain
  row_plain from (suc wide) = add-plain (row_sum plus_zero m from wide) (get_or m (from + wide) nan) (row_plain from wide) (plain (from + wide))

  row-start : (from wide : ℕ) → row_sum minus_zero m from (suc wide) ≡ row_sum plus_zero m from (suc wide)
  unfolding row_sum
  row-start from zero = one-term (get_or m (from + 0) nan) (plain (from + 0))
  row-start from (suc wide) = ap (λ (x : Float). add binary64 x (get_or m (from + suc wide) nan)) (row-start from wide)

  rows_start : (n top left wide high : ℕ) → block_sum minus_zero m n top left (suc wide) (suc high) ≡ block_sum plus_zero m n top left (suc wide) (suc high)
  unfolding block_sum
  rows_start n top left wide zero =
      ap (add binary64 minus_zero) (row-start ((top + 0) * n + left) wide)
      ∙ one-term (row_sum plus_zero m ((top + 0) * n + left) (suc wide)) (row_plain ((top + 0) * n + left) (suc wide))
  rows_start n top left wide (suc high) =
      ap (λ (x : Float). add binary64 x (row_sum minus_zero m ((top + suc high) * n + left) (suc wide))) (rows_start n top left wide high)
      ∙ ap (add binary64 (block_sum plus_zero m n top left (suc wide) (suc high))) (row-start ((top + suc high) * n + left) wide)

  sum-start : (n top left wide high : ℕ) → 1 < high * wide → block_sum minus_zero m n top left wide high ≡ block_sum plus_zero m n top left wide high
  sum-start n top left zero high h = absurd (omega (arith, mul-zero high))
  sum-start n top left (suc wide) zero h = absurd (omega (arith, zero-mul (suc wide)))
  sum-start n top left (suc wide) (suc high) h = rows_start n top left wide high

  mean-start : (n : ℕ) (b : Block) → 1 < entries b → mean minus_zero n b m ≡ mean plus_zero n b m
  unfolding mean
  mean-start n b h =
      ap (λ (x : Float). div binary64 x (of_int binary64 (pos (entries b)))) (sum-start n b.top b.left (b.right - b.left) (b.bottom - b.top) h)

  entry-start : (n : ℕ) (b : Block) (r c : ℕ) → averaged_in minus_zero n b m r c ≡ averaged_in plus_zero n b m r c
  entry-start n b r c =
      ⊎_elim
      (λ h. averaged-many minus_zero n b m r c h ∙ mean-start n b h ∙ sym (averaged-many plus_zero n b m r c h))
      (λ h. averaged-one minus_zero n b m r c h ∙ sym (averaged-one plus_zero n b m r c h))
      (lt-or-le 1 (entries b))

  -- one matrix
  pub matrix-start : (n : ℕ) (ids1 ids2 : List ℤ) → averaged_from minus_zero n ids1 ids2 m ≡ averaged n ids1 ids2 m
  unfolding averaged_by
  matrix-start n ids1 ids2 =
      tabulate-ext (n * n) _ _ (λ k l. entry-start n (block_of (starts_at ids1) (starts_at ids2) n (k / n) (k % n)) (k / n) (k % n))

-- ---- question 19 gives what the law asks

weights-plain : (w : List Float) → ((k : ℕ) → T (fits binary64 (get_or w k nan))) → are_weights w ≡ true → (k : ℕ) → Plain (get_or w k nan)
weights-plain w fit e k =
    ⊎_elim
    (λ l. (fit k, weight-plain w e k l))
    (λ l. subst Plain (sym (get_or-eq_default w nan l)) nan-plain)
    (lt-or-le k (length w))

part-plain : (start len : ℕ) (w : List Float) → ((k : ℕ) → Plain (get_or w k nan)) → (k : ℕ) → Plain (get_or (part start len w) k nan)
part-plain start len w plain k =
    ⊎_elim
    (λ l. subst Plain (sym (get_or-take len (drop start w) k nan l ∙ get_or-drop start w k nan)) (plain (start + k)))
    (λ l. subst Plain (sym (get_or-eq_default (part start len w) nan (omega (arith, length-take len (drop start w))))) nan-plain)
    (lt-or-le k len)

-- the matrices of all points: every weight is a float of the machine, and question 19 says yes
pub start-same-bits : (bands : ℕ) (ids1 ids2 : List ℤ) (points : ℕ) (w : List Float)
    → ((k : ℕ) → T (fits binary64 (get_or w k nan))) → are_weights w ≡ true
    → each_part (bands * bands) (averaged_from minus_zero bands ids1 ids2) points w ≡ averaged_points bands ids1 ids2 points w
unfolding points_by
start-same-bits bands ids1 ids2 points w fit e =
    each-ext (bands * bands) (averaged_from minus_zero bands ids1 ids2) (averaged bands ids1 ids2) points w
    (λ k h.
    matrix-start (part (k * (bands * bands)) (bands * bands) w)
    (part-plain (k * (bands * bands)) (bands * bands) w (weights-plain w fit e)) bands ids1 ids2)
