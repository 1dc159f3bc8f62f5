-- `all`, `any` and `count` over a list or a range, as tests of the indices. Assumes nothing.
use mathlib.Core.Path.{◌≡◌, refl, sym, ap, ◌∙◌}
use mathlib.Core.Bool.{Bool, true, false, ◌&&◌, ◌||◌, cond}
use mathlib.Core.List.{List, [], ◌∷◌}
use Prim.Native.Nat.{ℕ, zero, suc, ◌+◌, ◌<◌, ◌≤◌}
use native.Mathlib.Nat.{zero-add}
use native.Mathlib.Omega.{arith}
use lib.ListN.{length, get_or, take, drop, length-take, length-drop}
use lib.Seq.{get_or-take, get_or-drop}
use Rattle.std.specs.List.{list_all, list_any, count_by, range_with_len}
use Rattle.std.proofs.lemmas.List.Sums.{sum_by-cons}
use Rattle.list_laws.specs.Lists.{all_below, some_below, count_below, one_if}
use Rattle.list_laws.proofs.MapLaws.{count-ext}

-- ---- the first index by itself

and-true : (a : Bool) → a ≡ (a && true)
and-true true = refl
and-true false = refl

or-false : (a : Bool) → a ≡ (a || false)
or-false true = refl
or-false false = refl

and-assoc : (a b c : Bool) → ((a && b) && c) ≡ (a && (b && c))
and-assoc true b c = refl
and-assoc false b c = refl

or-assoc : (a b c : Bool) → ((a || b) || c) ≡ (a || (b || c))
or-assoc true b c = refl
or-assoc false b c = refl

pub all-first : (n : ℕ) (p : ℕ → Bool) → all_below (suc n) p ≡ (p 0 && all_below n (λ k. p (suc k)))
unfolding all_below
all-first zero p = and-true (p 0)
all-first (suc n) p = ap (λ (b : Bool). b && p (suc n)) (all-first n p) ∙ and-assoc (p 0) (all_below n (λ k. p (suc k))) (p (suc n))

pub some-first : (n : ℕ) (p : ℕ → Bool) → some_below (suc n) p ≡ (p 0 || some_below n (λ k. p (suc k)))
unfolding some_below
some-first zero p = or-false (p 0)
some-first (suc n) p = ap (λ (b : Bool). b || p (suc n)) (some-first n p) ∙ or-assoc (p 0) (some_below n (λ k. p (suc k))) (p (suc n))

pub count-first : (n : ℕ) (p : ℕ → Bool) → count_below (suc n) p ≡ one_if (p 0) + count_below n (λ k. p (suc k))
unfolding count_below
count-first zero p = omega arith
count-first (suc n) p = ap (λ (c : ℕ). c + one_if (p (suc n))) (count-first n p) ∙ omega arith

-- ---- tests that agree at each index

pub all-ext : (n : ℕ) (p q : ℕ → Bool) → ((k : ℕ) → k < n → p k ≡ q k) → all_below n p ≡ all_below n q
unfolding all_below
all-ext zero p q h = refl
all-ext (suc n) p q h = λ i. all-ext n p q (λ k l. h k (omega arith)) i && h n (omega arith) i

pub some-ext : (n : ℕ) (p q : ℕ → Bool) → ((k : ℕ) → k < n → p k ≡ q k) → some_below n p ≡ some_below n q
unfolding some_below
some-ext zero p q h = refl
some-ext (suc n) p q h = λ i. some-ext n p q (λ k l. h k (omega arith)) i || h n (omega arith) i

-- ---- over a list

module _ {A : Type 0} (test : A → Bool) (d : A) where
  pub all-list : (l : List A) → list_all test l ≡ all_below (length l) (λ k. test (get_or l k d))
  unfolding all_below
  all-list [] = refl
  all-list (x ∷ l) = ap (λ (b : Bool). test x && b) (all-list l) ∙ sym (all-first (length l) (λ k. test (get_or (x ∷ l) k d)))

  -- of the first n of a longer one
  pub all-front : (n : ℕ) (l : List A) → n ≤ length l → list_all test (take n l) ≡ all_below n (λ k. test (get_or l k d))
  unfolding all_below
  all-front zero l h = refl
  all-front (suc n) [] h = absurd (omega (arith, h))
  all-front (suc n) (x ∷ l) h =
      ap (λ (b : Bool). test x && b) (all-front n l (omega (arith, h))) ∙ sym (all-first n (λ k. test (get_or (x ∷ l) k d)))

  pub any-list : (l : List A) → list_any test l ≡ some_below (length l) (λ k. test (get_or l k d))
  unfolding some_below
  any-list [] = refl
  any-list (x ∷ l) = ap (λ (b : Bool). test x || b) (any-list l) ∙ sym (some-first (length l) (λ k. test (get_or (x ∷ l) k d)))

  pub count-list : (l : List A) → count_by test l ≡ count_below (length l) (λ k. test (get_or l k d))
  unfolding count_below
  count-list [] = refl
  count-list (x ∷ l) =
      sum_by-cons (λ y. cond (test y) 1 0) x l ∙ ap (λ (c : ℕ). one_if (test x) + c) (count-list l)
      ∙ sym (count-first (length l) (λ k. test (get_or (x ∷ l) k d)))

-- ---- over the n entries of a list from `start` on

module _ {A : Type 0} (test : A → Bool) (d : A) (start n : ℕ) (l : List A) (room : start + n ≤ length l) where
  part-length : length (take n (drop start l)) ≡ n
  part-length = simp (length-take, length-drop) (omega (arith, room))

  part-at : (k : ℕ) → k < n → test (get_or (take n (drop start l)) k d) ≡ test (get_or l (start + k) d)
  part-at k h = ap test (get_or-take n (drop start l) k d h ∙ get_or-drop start l k d)

  pub all-part : list_all test (take n (drop start l)) ≡ all_below n (λ k. test (get_or l (start + k) d))
  all-part = all-list test d (take n (drop start l)) ∙ ap (λ (m : ℕ). all_below m (λ k. test (get_or (take n (drop start l)) k d))) part-length ∙ all-ext n _ _ part-at

  pub count-part : count_by test (take n (drop start l)) ≡ count_below n (λ k. test (get_or l (start + k) d))
  count-part = count-list test d (take n (drop start l)) ∙ ap (λ (m : ℕ). count_below m (λ k. test (get_or (take n (drop start l)) k d))) part-length ∙ count-ext n _ _ part-at

-- over the first n entries
pub count-front : {A : Type 0} (test : A → Bool) (d : A) (n : ℕ) (l : List A) → n ≤ length l → count_by test (take n l) ≡ count_below n (λ k. test (get_or l k d))
count-front test d n l h = count-part test d 0 n l (omega (arith, h)) ∙ count-ext n _ _ (λ k m. ap (λ (j : ℕ). test (get_or l j d)) (zero-add k))

-- ---- over the n numbers from a on

module _ (test : ℕ → Bool) where
  next : (a n k : ℕ) → test ((a + 1) + k) ≡ test (a + suc k)
  next a n k = ap test (omega arith)

  start : (a : ℕ) → test a ≡ test (a + 0)
  start a = ap test (omega arith)

  pub all-range : (a n : ℕ) → list_all test (range_with_len a n) ≡ all_below n (λ k. test (a + k))
  unfolding all_below
  all-range a zero = refl
  all-range a (suc n) =
      (λ i. start a i && (all-range (a + 1) n ∙ (λ j. all_below n (λ k. next a n k j))) i)
      ∙ sym (all-first n (λ k. test (a + k)))

  pub any-range : (a n : ℕ) → list_any test (range_with_len a n) ≡ some_below n (λ k. test (a + k))
  unfolding some_below
  any-range a zero = refl
  any-range a (suc n) =
      (λ i. start a i || (any-range (a + 1) n ∙ (λ j. some_below n (λ k. next a n k j))) i)
      ∙ sym (some-first n (λ k. test (a + k)))

  pub count-range : (a n : ℕ) → count_by test (range_with_len a n) ≡ count_below n (λ k. test (a + k))
  unfolding count_below
  count-range a zero = refl
  count-range a (suc n) =
      sum_by-cons (λ y. cond (test y) 1 0) a (range_with_len (a + 1) n)
      ∙ (λ i. one_if (start a i) + (count-range (a + 1) n ∙ (λ j. count_below n (λ k. next a n k j))) i)
      ∙ sym (count-first n (λ k. test (a + k)))

  -- ---- and from 0 on

  from-zero : (k : ℕ) → test (0 + k) ≡ test k
  from-zero k = ap test (omega arith)

  pub all-upto : (n : ℕ) → list_all test (range_with_len 0 n) ≡ all_below n test
  all-upto n = all-range 0 n ∙ (λ j. all_below n (λ k. from-zero k j))

  pub any-upto : (n : ℕ) → list_any test (range_with_len 0 n) ≡ some_below n test
  any-upto n = any-range 0 n ∙ (λ j. some_below n (λ k. from-zero k j))

  pub count-upto : (n : ℕ) → count_by test (range_with_len 0 n) ≡ count_below n test
  count-upto n = count-range 0 n ∙ (λ j. count_below n (λ k. from-zero k j))
