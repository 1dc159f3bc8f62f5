-- Rows put in order one after the other, and the weight over them: it is the weight over the rows as they were. Assumes nothing.
use mathlib.Core.Path.{◌≡◌, refl, ◌∙◌, ap}
use mathlib.Core.List.{List, [], ◌∷◌}
use Prim.Native.Nat.{ℕ, zero, suc, ◌+◌, ◌*◌, ◌<◌, ◌≤◌}
use native.Mathlib.Nat.{not-suc-le-zero}
use native.Mathlib.Omega.{arith}
use borrow.Author.Count.{below_more}
use lib.Ieee.{Float, nan}
use lib.ListN.{get_or, length, set, length-set}
use lib.Seq.{get_or-set_same, get_or-set_other}
use Rattle.tetrahedron_sort.specs.Sort.{sorted_of, place_of}
use Rattle.tetrahedron_method.specs.declared.WeightFunction.{WeightFunction}
use Rattle.tetrahedron_method.specs.Weight.{row_of, row_weight, sum_of, weight_of}
use Rattle.tetrahedron_method.specs.Sorted.{with_row, Ordered, sorted_row_at, sorted_sum, sorted_weight}
use Rattle.tetrahedron_method.proofs.RowLaws.{four-values}

module _ (a : List Float) (k : ℕ) (r : List Float) where
  with-length : length (with_row a k r) ≡ length a
  with-length = simp length-set

  with-other : (i : ℕ) → (i ≡ k * 4 → ⊥) → (i ≡ k * 4 + 1 → ⊥) → (i ≡ k * 4 + 2 → ⊥) → (i ≡ k * 4 + 3 → ⊥) → get_or (with_row a k r) i nan ≡ get_or a i nan
  with-other i h0 h1 h2 h3 =
      let a0 : List Float = set a (k * 4) (get_or r 0 nan) in
      let a1 : List Float = set a0 (k * 4 + 1) (get_or r 1 nan) in
      let a2 : List Float = set a1 (k * 4 + 2) (get_or r 2 nan) in
      get_or-set_other a2 (k * 4 + 3) i (get_or r 3 nan) nan h3
      ∙ get_or-set_other a1 (k * 4 + 2) i (get_or r 2 nan) nan h2
      ∙ get_or-set_other a0 (k * 4 + 1) i (get_or r 1 nan) nan h1
      ∙ get_or-set_other a (k * 4) i (get_or r 0 nan) nan h0

  with-row : k * 4 + 3 < length a → row_of (with_row a k r) k ≡ get_or r 0 nan ∷ get_or r 1 nan ∷ get_or r 2 nan ∷ get_or r 3 nan ∷ []
  with-row h =
      let a0 : List Float = set a (k * 4) (get_or r 0 nan) in
      let a1 : List Float = set a0 (k * 4 + 1) (get_or r 1 nan) in
      let a2 : List Float = set a1 (k * 4 + 2) (get_or r 2 nan) in
      let n0 : length a0 ≡ length a = length-set a (k * 4) (get_or r 0 nan) in
      let n1 : length a1 ≡ length a = length-set a0 (k * 4 + 1) (get_or r 1 nan) ∙ n0 in
      let n2 : length a2 ≡ length a = length-set a1 (k * 4 + 2) (get_or r 2 nan) ∙ n1 in
      let e0 : get_or (with_row a k r) (k * 4) nan ≡ get_or r 0 nan =
      get_or-set_other a2 (k * 4 + 3) (k * 4) (get_or r 3 nan) nan (λ q. omega arith)
      ∙ get_or-set_other a1 (k * 4 + 2) (k * 4) (get_or r 2 nan) nan (λ q. omega arith)
      ∙ get_or-set_other a0 (k * 4 + 1) (k * 4) (get_or r 1 nan) nan (λ q. omega arith)
      ∙ get_or-set_same a (k * 4) (get_or r 0 nan) nan (omega arith) in
      let e1 : get_or (with_row a k r) (k * 4 + 1) nan ≡ get_or r 1 nan =
      get_or-set_other a2 (k * 4 + 3) (k * 4 + 1) (get_or r 3 nan) nan (λ q. omega arith)
      ∙ get_or-set_other a1 (k * 4 + 2) (k * 4 + 1) (get_or r 2 nan) nan (λ q. omega arith)
      ∙ get_or-set_same a0 (k * 4 + 1) (get_or r 1 nan) nan (omega arith) in
      let e2 : get_or (with_row a k r) (k * 4 + 2) nan ≡ get_or r 2 nan =
      get_or-set_other a2 (k * 4 + 3) (k * 4 + 2) (get_or r 3 nan) nan (λ q. omega arith)
      ∙ get_or-set_same a1 (k * 4 + 2) (get_or r 2 nan) nan (omega arith) in
      let e3 : get_or (with_row a k r) (k * 4 + 3) nan ≡ get_or r 3 nan = get_or-set_same a2 (k * 4 + 3) (get_or r 3 nan) nan (omega arith) in
      rw (e0, e1, e2, e3)

-- rows with the same entries are the same
pub rows_same : (s t : List Float) (k : ℕ) → ((i : ℕ) → k * 4 ≤ i → i < k * 4 + 4 → get_or s i nan ≡ get_or t i nan) → row_of s k ≡ row_of t k
rows_same s t k h =
    rw (h (k * 4) (omega arith) (omega arith), h (k * 4 + 1) (omega arith) (omega arith), h (k * 4 + 2) (omega arith) (omega arith), h (k * 4 + 3) (omega arith) (omega arith))

-- the first k rows are in order, the rest is as it was
pub record Turned (a : List Float) (k : ℕ) (s : List Float) (p : List ℕ) : Type 0 where
  pub size : length s ≡ 384
  pub count : length p ≡ 96
  pub done : Ordered a k s p
  pub kept : (i : ℕ) → k * 4 ≤ i → get_or s i nan ≡ get_or a i nan

pub turned_none : (a : List Float) (p : List ℕ) → length a ≡ 384 → length p ≡ 96 → Turned a 0 a p
turned_none a p h g = record { size = h; count = g; done = λ k l. absurd (not-suc-le-zero l); kept = λ i l. refl }

pub turned_next : (a s : List Float) (p : List ℕ) (k : ℕ) → k < 96 → Turned a k s p → (r : List Float) (n : ℕ) → r ≡ sorted_of (row_of s k) → n ≡ place_of (row_of s k)
    → Turned a (k + 1) (with_row s k r) (set p k n)
turned_next a s p k h t r n e g =
    let same : row_of s k ≡ row_of a k = rows_same s a k (λ i l m. t.kept i l) in
    record {
      size = with-length s k r ∙ t.size;
      count = length-set p k n ∙ t.count;
      done = below_more (λ (j : ℕ). (row_of (with_row s k r) j ≡ sorted_of (row_of a j)) × (get_or (set p k n) j 0 ≡ place_of (row_of a j))) k
          (λ j l. (
            rows_same (with_row s k r) s j (λ i b c. with-other s k r i (λ q. omega arith) (λ q. omega arith) (λ q. omega arith) (λ q. omega arith)) ∙ (t.done j l).0,
            get_or-set_other p k j n 0 (λ q. omega arith) ∙ (t.done j l).1,
          )) (
            with-row s k r (omega (arith, t.size)) ∙ rw e (four-values (row_of s k)) ∙ ap sorted_of same,
            get_or-set_same p k n 0 (omega (arith, t.count)) ∙ g ∙ ap place_of same,
          );
      kept = λ i l. with-other s k r i (λ q. omega arith) (λ q. omega arith) (λ q. omega arith) (λ q. omega arith) ∙ t.kept i (omega arith);
    }

-- what a row in order adds is what the row adds
row_is : (u : WeightFunction) (w : Float) (a s : List Float) (p : List ℕ) (rows k : ℕ) → k < rows → Ordered a rows s p → sorted_row_at u w s p k ≡ row_weight u w (row_of a k)
unfolding row_weight
row_is u w a s p rows k h o = rw ((o k h).0, (o k h).1)

sum_is : (u : WeightFunction) (w : Float) (a s : List Float) (p : List ℕ) (rows k : ℕ) → k ≤ rows → Ordered a rows s p → sorted_sum u w s p k ≡ sum_of u w a k
unfolding sorted_sum sum_of
sum_is u w a s p rows zero h o = refl
sum_is u w a s p rows (suc k) h o = rw (sum_is u w a s p rows k (omega arith) o, row_is u w a s p rows k (omega arith) o)

-- the weight over rows in order is the weight over the rows
pub weight_is : (u : WeightFunction) (w : Float) (a s : List Float) (p : List ℕ) (rows : ℕ) → Ordered a rows s p → sorted_weight u w s p rows ≡ weight_of u w a rows
unfolding sorted_weight weight_of
weight_is u w a s p rows o = rw (sum_is u w a s p rows rows (omega arith) o)

-- two lists with the same first rows have the same weight
same_sum : (u : WeightFunction) (w : Float) (s t : List Float) (rows k : ℕ) → k ≤ rows → ((i : ℕ) → i < rows * 4 → get_or s i nan ≡ get_or t i nan) → sum_of u w s k ≡ sum_of u w t k
unfolding sum_of
same_sum u w s t rows zero h e = refl
same_sum u w s t rows (suc k) h e =
    let same : row_of s k ≡ row_of t k = rows_same s t k (λ i l m. e i (omega arith)) in
    rw (same_sum u w s t rows k (omega arith) e, same)

pub weight-same : (u : WeightFunction) (w : Float) (s t : List Float) (rows : ℕ) → ((i : ℕ) → i < rows * 4 → get_or s i nan ≡ get_or t i nan) → weight_of u w s rows ≡ weight_of u w t rows
unfolding weight_of
weight-same u w s t rows e = rw (same_sum u w s t rows rows (omega arith) e)
