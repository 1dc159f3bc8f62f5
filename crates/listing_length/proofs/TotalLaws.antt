-- Sums taken apart. Assumes nothing.
use Prim.Native.Nat.{ℕ, zero, suc, ◌+◌, ◌*◌, ◌/◌, ◌%◌, ◌≤◌, ◌<◌}
use mathlib.Core.Path.{◌≡◌, refl, sym, ◌∙◌}
use mathlib.Core.List.{List}
use native.Mathlib.Nat.{zero-mul, suc-mul, add-zero}
use native.Mathlib.Omega.{arith}
use lib.Arith.{digits_mod, digits_div}
use lib.ListN.{length, length-append}
use Rattle.list_laws.specs.Lists.{rows}
use Rattle.listing_length.specs.Totals.{total}

pub rows-length : (n : ℕ) (f : ℕ → List ℕ) → length (rows n f) ≡ total n (λ i. length (f i))
unfolding rows total
rows-length zero f = refl
rows-length (suc n) f = length-append (rows n f) (f n) ∙ rw (rows-length n f)

pub total-is : (n : ℕ) (f g : ℕ → ℕ) → ((i : ℕ) → i < n → f i ≡ g i) → total n f ≡ total n g
unfolding total
total-is zero f g h = refl
total-is (suc n) f g h = omega (arith, total-is n f g (λ i l. h i (omega arith)), h n (omega arith))

pub total-le : (n : ℕ) (f g : ℕ → ℕ) → ((i : ℕ) → i < n → f i ≤ g i) → total n f ≤ total n g
unfolding total
total-le zero f g h = omega arith
total-le (suc n) f g h = omega (arith, total-le n f g (λ i l. h i (omega arith)), h n (omega arith))

pub total-add : (n : ℕ) (f g : ℕ → ℕ) → total n (λ i. f i + g i) ≡ total n f + total n g
unfolding total
total-add zero f g = omega arith
total-add (suc n) f g = omega (arith, total-add n f g)

pub total-same : (n k : ℕ) → total n (λ i. k) ≡ n * k
unfolding total
total-same zero k = sym (zero-mul k)
total-same (suc n) k = omega (arith, total-same n k, suc-mul n k)

total-split : (a b : ℕ) (f : ℕ → ℕ) → total (a + b) f ≡ total a f + total b (λ i. f (a + i))
unfolding total
total-split a zero f = rw add-zero (omega arith)
total-split a (suc b) f = let q : a + suc b ≡ suc (a + b) = omega arith in rw q (omega (arith, total-split a b f))

-- over m rows of n: what depends on the row, and what depends on the place in it
pub total-grid : (m n : ℕ) (f g : ℕ → ℕ) → total (m * n) (λ e. f (e / n) + g (e % n)) ≡ n * total m f + m * total n g
unfolding total
total-grid zero n f g = rw (zero-mul n) (omega (arith, zero-mul (total n g)))
total-grid (suc m) n f g =
    let q : suc m * n ≡ m * n + n = omega (arith, suc-mul m n) in
    let h : ℕ → ℕ = λ e. f (e / n) + g (e % n) in
    let w : total n (λ i. h (m * n + i)) ≡ total n (λ i. f m + g i) = total-is n (λ i. h (m * n + i)) (λ i. f m + g i) (λ i l. rw (digits_div m {m = n} {r = i} l, digits_mod m {m = n} {r = i} l)) in
    rw q (omega (arith, total-split (m * n) n h, w, total-grid m n f g, total-add n (λ i. f m) g, total-same n (f m)))
