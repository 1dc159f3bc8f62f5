-- The chain is of 32-bit numbers and goes on from record to record; each frequency is k/4096 exactly, and lies in question 11's ranges. Assumes nothing.
use mathlib.Core.Path.{◌≡◌, refl, sym, ap, ◌∙◌}
use mathlib.Core.Bool.{Bool, true, false, ◌&&◌, ◌||◌}
use mathlib.Core.List.{List, ◌++◌}
use Prim.Native.Nat.{ℕ, zero, suc, ◌+◌, ◌*◌, ◌/◌, ◌^◌, ◌≤◌, ◌<◌}
use native.Mathlib.Nat.{add-zero, add-suc, mul_assoc, suc-mul, mod-lt, zero-lt-suc, lt_of_lt_of_le, mul-lt-mul_of_pos_right}
use native.Mathlib.Omega.{arith}
use lib.Dec.{leb→le}
use lib.Pow.{pow_pos}
use lib.ListN.{get_or, length}
use lib.Ieee.{Float, nan, fin, binary64, of_bits, of_int, div, eq, le, inf}
use lib.Ieee.Exact.{HasValue, round_exact}
use lib.Ieee.Bits.{is_true}
use lib.Ieee.Order.{le_of_values}
use Rattle.list_laws.specs.Lists.{tabulate}
use Rattle.list_laws.proofs.BoolLaws.{and_both}
use Rattle.list_laws.proofs.BelowLaws.{below_all}
use Rattle.list_laws.proofs.FillLaws.{length-tabulate, tabulate-at, tabulate-ext, tabulate-cut}
use Rattle.ieee_laws.specs.Magnitude.{absolute}
use Rattle.ieee_laws.proofs.WholeLaws.{nat-div}
use Rattle.question_values.specs.Frequencies.{in_range, are_in_range, least_frequency, greatest_frequency, least_point, greatest_point, are_frequencies, are_points}
use Rattle.test_load.specs.Load.{IsNumber, next, after, frequency, frequency_at, frequencies_from}

-- ---- the chain

pub next-number : (x : ℕ) → IsNumber (next x)
unfolding next
next-number x = mod-lt (1664525 * x + 1013904223) (zero-lt-suc 4294967295)

pub after_none : (start : ℕ) → start ≡ after start 0
unfolding after
after_none start = refl

pub after_next : (start n : ℕ) → next (after start n) ≡ after start (suc n)
unfolding after
after_next start n = refl

-- after one step or more it is a 32-bit number, whatever the start
step-number : (start n : ℕ) → IsNumber (after start (suc n))
unfolding after
step-number start n = next-number (after start n)

-- so many steps, and as many more
pub after-after : (start n k : ℕ) → after (after start n) k ≡ after start (n + k)
unfolding after
after-after start n zero = ap (after start) (sym (add-zero n))
after-after start n (suc k) = ap next (after-after start n k) ∙ ap (after start) (sym (add-suc n k))

-- a record that is filled from the number that the one before ended with goes on in the chain
pub goes_on : (start n k : ℕ) → frequencies_from (after start n) 0 k ≡ frequencies_from start n k
unfolding frequencies_from
goes_on start n k = tabulate-ext k _ _ (λ i _. ap frequency (after-after start n (suc (0 + i)) ∙ ap (after start) (omega arith)))

-- "One start .. fills the first frequency record, then the second, then the points": the three, one after the other, are one chain
pub one-chain : (start n1 n2 n3 : ℕ) → frequencies_from start 0 n1 ++ (frequencies_from start n1 n2 ++ frequencies_from start (n1 + n2) n3) ≡ frequencies_from start 0 (n1 + (n2 + n3))
unfolding frequencies_from
one-chain start n1 n2 n3 =
    sym (tabulate-cut n1 (n2 + n3) (λ k. frequency_at start (0 + k))
    ∙ ap (λ (l : List Float). tabulate n1 (λ k. frequency_at start (0 + k)) ++ l)
    (tabulate-cut n2 n3 (λ i. frequency_at start (0 + (n1 + i)))
    ∙ ap (λ (l : List Float). tabulate n2 (λ i. frequency_at start (0 + (n1 + i))) ++ l)
    (tabulate-ext n3 _ _ (λ i _. ap (frequency_at start) (omega arith)))
    ∙ ap (λ (l : List Float). l ++ tabulate n3 (λ i. frequency_at start (n1 + n2 + i)))
    (tabulate-ext n2 _ _ (λ i _. ap (frequency_at start) (omega arith)))))

-- ---- exactly k/4096

module _ (x : ℕ) (h : IsNumber x) where
  -- "its upper 16 bits": one of 65536 whole numbers
  pub upper-below : x / 2 ^ 16 < 65536
  upper-below = omega (arith, h)

  -- "as a whole number divided by 4096", and nothing is rounded
  pub frequency-exact : HasValue (frequency x) false (x / 2 ^ 16) 4096
  unfolding frequency
  frequency-exact =
      let small : x / 2 ^ 16 ≤ 2 ^ 53 = omega (arith, upper-below) in
      let k = x / 2 ^ 16 in
      let a : k * 2 ^ 1062 < 2 ^ (1074 + 1024) = lt_of_lt_of_le (mul-lt-mul_of_pos_right upper-below (pow_pos 1062)) (leb→le (65536 * 2 ^ 1062) (2 ^ (1074 + 1024)) tt) in
      let b : k * 2 ^ 1074 ≡ k * 2 ^ 1062 * 4096 = sym (mul_assoc k (2 ^ 1062) 4096) in
      rw (nat-div binary64 k 4096 small (omega arith) (omega arith)) (round_exact binary64 false k 4096 k 1062 (omega arith) (omega (arith, upper-below)) a b)

-- each value of a record is k/4096 for some whole k below 65536
pub each-exact : (start from n i : ℕ) → i < n → (k : ℕ) × ((k < 65536) × HasValue (get_or (frequencies_from start from n) i nan) false k 4096)
unfolding frequencies_from
each-exact start from n i h =
    let x = after start (suc (from + i)) in
    let number : IsNumber x = step-number start (from + i) in
    (x / 2 ^ 16, (upper-below x number, rw (tabulate-at n (λ k. frequency_at start (from + k)) nan i h) (frequency-exact x number)))

-- ---- in question 11's ranges

-- k/4096 lies between two magnitudes that are far enough apart
module _ (low high : Float) (n m : ℕ) (low-is : HasValue low false 1 n) (high_is : HasValue high false m 1) (least : 4096 ≤ n) (most : 65535 ≤ m * 4096) where
  low-under : (k : ℕ) → 0 < k → 1 * 4096 ≤ k * n
  low-under zero p = absurd (omega arith)
  low-under (suc k) p = let e : suc k * n ≡ k * n + n = suc-mul k n in omega (arith, least, e)

  between : (y : Float) (k : ℕ) → HasValue y false k 4096 → 0 < k → k < 65536 → (le low (absolute y) && le (absolute y) high) ≡ true
  unfolding absolute
  between (fin s a e) k v p q =
      let w : HasValue (fin false a e) false k 4096 = (refl, v.1) in
      and_both {a = le low (fin false a e)} {b = le (fin false a e) high}
      (is_true _ (le_of_values low (fin false a e) 1 n k 4096 (omega (arith, least)) (omega arith) low-is w (low-under k p)))
      (is_true _ (le_of_values (fin false a e) high k 4096 m 1 (omega arith) (omega arith) w high_is (omega (arith, most, q))))
  between nan k v p q = elim v [ ]
  between (inf _) k v p q = elim v [ ]

  second-yes : (a b : Bool) → b ≡ true → (a || b) ≡ true
  second-yes true b e = refl
  second-yes false b e = e

  in-range : (x : ℕ) → IsNumber x → in_range low high (frequency x) ≡ true
  unfolding in_range frequency div of_int of_bits eq
  in-range x h = by (x / 2 ^ 16) refl
    where
      by : (k : ℕ) → x / 2 ^ 16 ≡ k → (eq (frequency x) (of_bits binary64 0) || (le low (absolute (frequency x)) && le (absolute (frequency x)) high)) ≡ true
      by zero e = rw e refl
      by (suc k) e =
          second-yes (eq (frequency x) (of_bits binary64 0)) (le low (absolute (frequency x)) && le (absolute (frequency x)) high)
          (between (frequency x) (x / 2 ^ 16) (frequency-exact x h) (omega (arith, e)) (upper-below x h))

  all-in-range : (start from n : ℕ) → are_in_range low high (frequencies_from start from n) ≡ true
  unfolding are_in_range frequencies_from
  all-in-range start from n =
      below_all (length (frequencies_from start from n)) _ (λ k l.
      let l' : k < n = omega (arith, l, length-tabulate n (λ k. frequency_at start (from + k))) in
      rw (tabulate-at n (λ k. frequency_at start (from + k)) nan k l') (in-range (after start (suc (from + k))) (step-number start (from + k))))

-- "each value is proved within the accepted range": the very tests of question 11
pub are-frequencies : (start from n : ℕ) → are_frequencies (frequencies_from start from n) ≡ true
unfolding of_bits
are-frequencies start from n =
    all-in-range least_frequency greatest_frequency (2 ^ 600) (2 ^ 30) (refl, refl) (refl, refl) (leb→le 4096 (2 ^ 600) tt) (omega arith) start from n

pub are-points : (start from n : ℕ) → are_points (frequencies_from start from n) ≡ true
unfolding of_bits
are-points start from n =
    all-in-range least_point greatest_point (2 ^ 660) (2 ^ 31) (refl, refl) (refl, refl) (leb→le 4096 (2 ^ 660) tt) (omega arith) start from n
