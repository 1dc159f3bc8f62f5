-- A lattice of whole entries up to 2^20 in magnitude, -0.0 among them or not: the four float lengths are the exact whole squares, and the main diagonal that is picked is the truly shortest, the first on a tie. Assumes nothing.
use mathlib.Core.Path.{◌≡◌, refl, ap}
use mathlib.Core.Bool.{true, false, ◌&&◌, cond}
use mathlib.Core.List.{List, [], ◌∷◌}
use mathlib.Core.Logic.{⊎_elim}
use Prim.Native.Nat.{ℕ, zero, suc, ◌+◌, ◌*◌, ◌^◌, ◌≤◌, ◌<◌}
use native.Mathlib.Omega.{arith}
use native.Mathlib.Nat.{mul-one, mul-le-mul}
use borrow.Author.Tests.{lt-ltb, le-ltb}
use lib.Dec.{ltb}
use lib.IntN.{ℤ, pos, negsuc, nat_abs, ◌+ℤ◌, ◌*ℤ◌}
use lib.ListN.{get_or}
use lib.Ieee.{Float, nan, binary64, prec, fin, of_bits, of_int, add, mul, lt}
use Rattle.list_laws.specs.Lists.{at}
use Rattle.list_laws.proofs.BoolLaws.{lt-or-le, lt-eq-gt, and_both}
use Rattle.list_laws.proofs.SizeLaws.{size-sum, size-product}
use Rattle.ieee_laws.specs.Whole.{Whole}
use Rattle.ieee_laws.proofs.WholeLaws.{whole_of, whole-minus-zero, whole-mul, whole-add, whole-lt, whole-square, nat-add, whole-magnitude}
use Rattle.ask.specs.Ask.{first_no}
use Rattle.std.specs.declared.result.Result.TheVariants.{Ok}
use Rattle.common.specs.Matrix.{row_at, row_times, matvec_of, is_lattice, is_lattice_row, is_lattice_entry}
use Rattle.relative_grid_address.specs.Diagonal.{main_diagonals, norm_squared, length_of, least_up_to, main_diagonal_of}
use Rattle.relative_grid_address.specs.Answer.{table_answer, numbered_table}
use Rattle.relative_grid_address.specs.Whole.{UpTo20, IsWhole, IsLatticeOf, component, squared_length, square, FirstShortest}

three : (x y z : ℤ) → nat_abs x ≡ 1 → nat_abs y ≡ 1 → nat_abs z ≡ 1 → (j : ℕ) → j < 3 → nat_abs (at (x ∷ y ∷ z ∷ []) j) ≡ 1
three x y z p q r zero h = p
three x y z p q r (suc zero) h = q
three x y z p q r (suc (suc zero)) h = r
three x y z p q r (suc (suc (suc j))) h = absurd (omega arith)

-- each component of a main diagonal is 1 or -1
diagonal-one : (k j : ℕ) → k < 4 → j < 3 → nat_abs (at (get_or main_diagonals k []) j) ≡ 1
unfolding main_diagonals
diagonal-one zero j h g = three (pos 1) (pos 1) (pos 1) refl refl refl j g
diagonal-one (suc zero) j h g = three (negsuc 0) (pos 1) (pos 1) refl refl refl j g
diagonal-one (suc (suc zero)) j h g = three (pos 1) (negsuc 0) (pos 1) refl refl refl j g
diagonal-one (suc (suc (suc zero))) j h g = three (pos 1) (pos 1) (negsuc 0) refl refl refl j g
diagonal-one (suc (suc (suc (suc k)))) j h g = absurd (omega arith)

-- ---- one component of the product

whole : {x : Float} {z : ℤ} → IsWhole x z → Whole binary64 x z
whole {x} {z} w = ⊎_elim (λ e. rw e (whole_of binary64 z)) (λ e. rw (e.0, e.1) (whole-minus-zero binary64)) w

-- an entry times 1 or -1
term : {x : Float} (a b : ℤ) → Whole binary64 x a → nat_abs a ≤ 1048576 → nat_abs b ≡ 1 → Whole binary64 (mul binary64 x (of_int binary64 b)) (a *ℤ b) × (nat_abs (a *ℤ b) ≤ 1048576)
term a b w h g = (
  whole-mul binary64 w (whole_of binary64 b) (omega arith) (omega arith),
  omega (arith, size-product a b, ap (λ (n : ℕ). nat_abs a * n) g, mul-one (nat_abs a)),
)

module _ (x0 x1 x2 : Float) (a0 a1 a2 b0 b1 b2 : ℤ) (w0 : Whole binary64 x0 a0) (w1 : Whole binary64 x1 a1) (w2 : Whole binary64 x2 a2) (h0 : nat_abs a0 ≤ 1048576) (h1 : nat_abs a1 ≤ 1048576) (h2 : nat_abs a2 ≤ 1048576)
    (g0 : nat_abs b0 ≡ 1) (g1 : nat_abs b1 ≡ 1) (g2 : nat_abs b2 ≡ 1) where
  sum_is : (Whole binary64
      (add binary64 (add binary64 (mul binary64 x0 (of_int binary64 b0)) (mul binary64 x1 (of_int binary64 b1))) (mul binary64 x2 (of_int binary64 b2)))
      ((a0 *ℤ b0 +ℤ a1 *ℤ b1) +ℤ a2 *ℤ b2)) × (nat_abs ((a0 *ℤ b0 +ℤ a1 *ℤ b1) +ℤ a2 *ℤ b2) ≤ 3145728)
  sum_is =
      let t0 : _ = term a0 b0 w0 h0 g0 in
      let t1 : _ = term a1 b1 w1 h1 g1 in
      let t2 : _ = term a2 b2 w2 h2 g2 in
      let s : nat_abs (a0 *ℤ b0 +ℤ a1 *ℤ b1) ≤ 2097152 = omega (arith, size-sum (a0 *ℤ b0) (a1 *ℤ b1), t0.1, t1.1) in (
        whole-add binary64 (whole-add binary64 t0.0 t1.0 (omega (arith, t0.1)) (omega (arith, t1.1))) t2.0 (omega arith) (omega (arith, t2.1)),
        omega (arith, size-sum (a0 *ℤ b0 +ℤ a1 *ℤ b1) (a2 *ℤ b2), t2.1),
      )

-- ---- the four lengths

-- the sum of three exact squares
squares : (x y z : Float) (a b c : ℤ) → Whole binary64 x a × (nat_abs a ≤ 3145728) → Whole binary64 y b × (nat_abs b ≤ 3145728) → Whole binary64 z c × (nat_abs c ≤ 3145728)
    → norm_squared (x ∷ y ∷ z ∷ []) ≡ of_int binary64 (pos ((square a + square b) + square c))
unfolding norm_squared
squares x y z a b c u v w =
    let p : square a ≤ 3145728 * 3145728 = mul-le-mul u.1 u.1 in
    let q : square b ≤ 3145728 * 3145728 = mul-le-mul v.1 v.1 in
    let r : square c ≤ 3145728 * 3145728 = mul-le-mul w.1 w.1 in
    rw (
      whole-square binary64 u.0 (omega (arith, u.1)),
      whole-square binary64 v.0 (omega (arith, v.1)),
      whole-square binary64 w.0 (omega (arith, w.1)),
      nat-add binary64 (square a) (square b) (omega arith) (omega arith),
    )
    (nat-add binary64 (square a + square b) (square c) (omega arith) (omega arith))

module _ (a : List (List Float)) (l : ℕ → ℕ → ℤ) (entries : IsLatticeOf a l) (u : UpTo20 l) where
  -- component i of the lattice times a main diagonal
  component-is : (k i : ℕ) → k < 4 → i < 3
      → Whole binary64 (row_times (row_at a i) (get_or main_diagonals k [])) (component l (get_or main_diagonals k []) i)
      × (nat_abs (component l (get_or main_diagonals k []) i) ≤ 3145728)
  unfolding row_times component
  component-is k i h g =
      sum_is (get_or (row_at a i) 0 nan) (get_or (row_at a i) 1 nan) (get_or (row_at a i) 2 nan) (l i 0) (l i 1) (l i 2)
      (at (get_or main_diagonals k []) 0) (at (get_or main_diagonals k []) 1) (at (get_or main_diagonals k []) 2)
      (whole (entries i 0 g (omega arith))) (whole (entries i 1 g (omega arith))) (whole (entries i 2 g (omega arith)))
      (u i 0 g (omega arith)) (u i 1 g (omega arith)) (u i 2 g (omega arith))
      (diagonal-one k 0 h (omega arith)) (diagonal-one k 1 h (omega arith)) (diagonal-one k 2 h (omega arith))

  -- "For whole entries up to 2^20 in magnitude those lengths are exact"
  pub lengths-exact : (k : ℕ) → k < 4 → length_of a k ≡ of_int binary64 (pos (squared_length l k))
  unfolding length_of matvec_of squared_length
  lengths-exact k h =
      squares _ _ _ _ _ _ (component-is k 0 h (omega arith)) (component-is k 1 h (omega arith)) (component-is k 2 h (omega arith))

  length-small : (k : ℕ) → k < 4 → squared_length l k ≤ 2 ^ prec binary64
  unfolding squared_length
  length-small k h =
      let bound : (i : ℕ) → i < 3 → square (component l (get_or main_diagonals k []) i) ≤ 3145728 * 3145728 = λ i g. mul-le-mul (component-is k i h g).1 (component-is k i h g).1 in
      omega (arith, bound 0 (omega arith), bound 1 (omega arith), bound 2 (omega arith))

-- ---- the pick

-- lengths that are exact whole numbers: their least by the float comparison is the first of the shortest
module _ (floats : ℕ → Float) (size : ℕ → ℕ) where
  first-shortest : (n : ℕ) → ((k : ℕ) → k < suc n → (floats k ≡ of_int binary64 (pos (size k))) × (size k ≤ 2 ^ prec binary64)) → FirstShortest (suc n) size (least_up_to floats n)
  unfolding least_up_to
  first-shortest zero h =
      record { counted = omega arith; shortest = λ j g. let e : j ≡ 0 = omega arith in rw e (omega arith); first = λ j g. absurd (omega arith) }
  first-shortest (suc n) h = go (least_up_to floats n) (first-shortest n (λ k g. h k (omega arith)))
    where
      test : (p : ℕ) → p < suc (suc n) → lt (floats (suc n)) (floats p) ≡ ltb (size (suc n)) (size p)
      test p g =
          rw ((h (suc n) (omega arith)).0, (h p g).0)
          (whole-lt binary64 (whole_of binary64 (pos (size (suc n)))) (whole_of binary64 (pos (size p))) (h (suc n) (omega arith)).1 (h p g).1)

      go : (p : ℕ) → FirstShortest (suc n) size p → FirstShortest (suc (suc n)) size (cond (lt (floats (suc n)) (floats p)) (suc n) p)
      go p w =
          ⊎_elim
          (λ g.
          rw (test p (omega (arith, w.counted)), lt-ltb (size (suc n)) (size p) g)
          (record {
            counted = omega arith;
            shortest = λ j a. ⊎_elim (λ b. omega (arith, w.shortest j b)) (λ b. let e : j ≡ suc n = omega arith in rw e (omega arith)) (lt-or-le j (suc n));
            first = λ j a. omega (arith, w.shortest j a);
          }))
          (λ g.
          rw (test p (omega (arith, w.counted)), le-ltb (size (suc n)) (size p) g)
          (record {
            counted = omega (arith, w.counted);
            shortest = λ j a. ⊎_elim (λ b. w.shortest j b) (λ b. let e : j ≡ suc n = omega arith in rw e g) (lt-or-le j (suc n));
            first = w.first;
          }))
          (lt-or-le (size (suc n)) (size p))

-- there is only one first of the shortest
pub first-unique : (count : ℕ) (size : ℕ → ℕ) (k j : ℕ) → FirstShortest count size k → FirstShortest count size j → k ≡ j
first-unique count size k j a b =
    ⊎_elim
    (λ h. absurd (omega (arith, b.first k h, a.shortest j b.counted)))
    (λ t. ⊎_elim (λ e. e) (λ h. absurd (omega (arith, a.first j h, b.shortest k a.counted))) t)
    (lt-eq-gt k j)

module _ (a : List (List Float)) (l : ℕ → ℕ → ℤ) (entries : IsLatticeOf a l) (u : UpTo20 l) where
  -- "and the pick is the truly shortest", "the first on a tie"
  pub shortest-picked : FirstShortest 4 (squared_length l) (main_diagonal_of a)
  unfolding main_diagonal_of
  shortest-picked = first-shortest (length_of a) (squared_length l) 3 (λ k h. (lengths-exact a l entries u k h, length-small a l entries u k h))

  entry-accepted : (i j : ℕ) → i < 3 → j < 3 → is_lattice_entry (get_or (row_at a i) j nan) ≡ true
  unfolding is_lattice_entry of_bits
  entry-accepted i j h g =
      whole-magnitude binary64 (whole (entries i j h g)) (omega (arith, u i j h g)) (fin false 1 (pos 30)) 1073741824 (refl, refl) (omega (arith, u i j h g))

  -- question 2 lets such a lattice pass
  pub whole-accepted : is_lattice a ≡ true
  unfolding is_lattice is_lattice_row
  whole-accepted = and_both (and_both (row 0 (omega arith)) (row 1 (omega arith))) (row 2 (omega arith))
    where
      row : (i : ℕ) → i < 3 → (is_lattice_entry (get_or (row_at a i) 0 nan) && is_lattice_entry (get_or (row_at a i) 1 nan)) && is_lattice_entry (get_or (row_at a i) 2 nan) ≡ true
      row i h = and_both (and_both (entry-accepted i 0 h (omega arith)) (entry-accepted i 1 h (omega arith))) (entry-accepted i 2 h (omega arith))

  -- what the entry answers for it
  pub whole-answer : (table_answer a ≡ Ok (numbered_table (main_diagonal_of a))) × FirstShortest 4 (squared_length l) (main_diagonal_of a)
  unfolding table_answer first_no
  whole-answer = rw whole-accepted (refl, shortest-picked)
