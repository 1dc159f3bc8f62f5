-- The computed tests of a one-to-one matching and of two sets say what the matching and the sets say, and going to the partner and back comes home. Assumes nothing.
use mathlib.Core.Path.{◌≡◌, refl, sym, ◌∙◌}
use mathlib.Core.Bool.{Bool, true, false, ◌||◌}
use mathlib.Core.List.{List}
use mathlib.Core.Logic.{⊎_elim}
use Prim.Native.Nat.{ℕ, zero, suc, ◌<◌}
use native.Mathlib.Omega.{arith}
use lib.Dec.{eqb}
use lib.ListN.{length, get_or}
use borrow.Author.Tests.{eqb-true}
use Rattle.list_laws.specs.Lists.{all_below, some_below, one_if, count_below}
use Rattle.list_laws.specs.Matching.{ExactlyOne, SomeOne, OneToOne, Matched, SameSet, AllDifferent, is_one_to_one, are_matched, are_same_set}
use Rattle.list_laws.proofs.BelowLaws.{below_at, below_all, some_at}
use Rattle.list_laws.proofs.BoolLaws.{clash, and_left, and_right, and_both, true-or-false, lt-or-le}

-- ---- exactly one, by count

-- none counted is none
count-zero : (n : ℕ) (p : ℕ → Bool) → count_below n p ≡ 0 → (k : ℕ) → k < n → p k ≡ true → ⊥
unfolding count_below
count-zero zero p e k h t = omega arith
count-zero (suc n) p e k h t =
    ⊎_elim
    (λ l. count-zero n p (omega arith) k l t)
    (λ l. let same : k ≡ n = omega arith in let one : one_if (p n) ≡ 1 = rw (← same, t) in omega arith)
    (lt-or-le k n)

-- one counted is exactly one
pub one-counted : (n : ℕ) (p : ℕ → Bool) → count_below n p ≡ 1 → ExactlyOne n (λ k. p k ≡ true)
unfolding count_below
one-counted zero p e = absurd (let f : ⊥ = omega arith in f)
one-counted (suc n) p e =
    ⊎_elim
    (λ t. let none : count_below n p ≡ 0 = (let one : one_if (p n) ≡ 1 = rw t in omega arith) in
    last t none)
    (λ t. let some : count_below n p ≡ 1 = (let no : one_if (p n) ≡ 0 = rw t in omega arith) in
    before t (one-counted n p some))
    (true-or-false (p n))
  where
    last : p n ≡ true → count_below n p ≡ 0 → ExactlyOne (suc n) (λ k. p k ≡ true)
    last t none = record {
      which = n;
      below = omega arith;
      holds = t;
      only = λ k h q. ⊎_elim (λ l. absurd (count-zero n p none k l q)) (λ l. omega arith) (lt-or-le k n);
    }

    before : p n ≡ false → ExactlyOne n (λ k. p k ≡ true) → ExactlyOne (suc n) (λ k. p k ≡ true)
    before t o = record {
      which = o.which;
      below = omega (arith, o.below);
      holds = o.holds;
      only = λ k h q.
          ⊎_elim (λ l. o.only k l q) (λ l. let same : k ≡ n = omega arith in clash (sym t ∙ (rw same at q))) (lt-or-le k n);
    }

exactly-as : (n : ℕ) (P Q : ℕ → Type 0) → ((k : ℕ) → P k → Q k) → ((k : ℕ) → Q k → P k) → ExactlyOne n P → ExactlyOne n Q
exactly-as n P Q f g o = record {
  which = o.which;
  below = o.below;
  holds = f o.which o.holds;
  only = λ k h q. o.only k h (g k q);
}

-- ---- one to one: the test r decides the relation R

module _ (r : ℕ → ℕ → Bool) (R : ℕ → ℕ → Type 0) (sound : (i j : ℕ) → r i j ≡ true → R i j) (complete : (i j : ℕ) → R i j → r i j ≡ true) where
  -- the two halves of the test
  abbrev forths : ℕ → ℕ → Bool
  forths n i = eqb (count_below n (r i)) 1

  abbrev backs : ℕ → ℕ → Bool
  backs m j = eqb (count_below m (λ i. r i j)) 1

  pub one-to-one : (m n : ℕ) → is_one_to_one m n r ≡ true → OneToOne m n R
  unfolding is_one_to_one
  one-to-one m n e = record {
    forth = λ i h. exactly-as n (λ j. r i j ≡ true) (R i) (sound i) (complete i)
        (one-counted n (r i) (eqb-true _ 1 (below_at m (forths n) (and_left (all_below m (forths n)) (all_below n (backs m)) e) i h)));
    back = λ j h. exactly-as m (λ i. r i j ≡ true) (λ i. R i j) (λ i. sound i j) (λ i. complete i j)
        (one-counted m (λ i. r i j) (eqb-true _ 1 (below_at n (backs m) (and_right (all_below m (forths n)) (all_below n (backs m)) e) j h)));
  }

-- ---- two lists: the test r decides the relation R of their entries

module _ {A : Type 0} (d : A) (r : A → A → Bool) (R : A → A → Type 0) (sound : (a b : A) → r a b ≡ true → R a b) (complete : (a b : A) → R a b → r a b ≡ true) where
  pub matched : (l m : List A) → are_matched d r l m ≡ true → Matched d R l m
  matched l m =
      one-to-one (λ i j. r (get_or l i d) (get_or m j d)) (λ i j. R (get_or l i d) (get_or m j d))
      (λ i j. sound (get_or l i d) (get_or m j d)) (λ i j. complete (get_or l i d) (get_or m j d)) (length l) (length m)

-- ---- two sets: the test r decides equality

some_of : (n : ℕ) (p : ℕ → Bool) → some_below n p ≡ true → SomeOne n (λ k. p k ≡ true)
unfolding some_below
some_of zero p e = clash e
some_of (suc n) p e =
    ⊎_elim
    (λ t. record { which = n; below = omega arith; holds = t })
    (λ t. wider (some_of n p (or_left (some_below n p) (p n) e t)))
    (true-or-false (p n))
  where
    or_left : (a b : Bool) → (a || b) ≡ true → b ≡ false → a ≡ true
    or_left true b u v = refl
    or_left false b u v = clash (sym v ∙ u)

    wider : SomeOne n (λ k. p k ≡ true) → SomeOne (suc n) (λ k. p k ≡ true)
    wider o = record { which = o.which; below = omega (arith, o.below); holds = o.holds }

some_as : (n : ℕ) (P Q : ℕ → Type 0) → ((k : ℕ) → P k → Q k) → SomeOne n P → SomeOne n Q
some_as n P Q f o = record { which = o.which; below = o.below; holds = f o.which o.holds }

module _ {A : Type 0} (d : A) (r : A → A → Bool) (sound : (a b : A) → r a b ≡ true → a ≡ b) (complete : (a b : A) → a ≡ b → r a b ≡ true) where
  -- the two halves of the test
  abbrev in_other : List A → List A → ℕ → Bool
  in_other l m i = some_below (length m) (λ j. r (get_or l i d) (get_or m j d))

  abbrev of_other : List A → List A → ℕ → Bool
  of_other l m j = some_below (length l) (λ i. r (get_or l i d) (get_or m j d))

  pub same_set : (l m : List A) → are_same_set d r l m ≡ true → SameSet d l m
  unfolding are_same_set
  same_set l m e = record {
    forth = λ i h. some_as (length m) (λ j. r (get_or l i d) (get_or m j d) ≡ true) (λ j. get_or l i d ≡ get_or m j d) (λ j. sound (get_or l i d) (get_or m j d))
        (some_of (length m) _ (below_at (length l) (in_other l m) (and_left (all_below (length l) (in_other l m)) (all_below (length m) (of_other l m)) e) i h));
    back = λ j h. some_as (length l) (λ i. r (get_or l i d) (get_or m j d) ≡ true) (λ i. get_or l i d ≡ get_or m j d) (λ i. sound (get_or l i d) (get_or m j d))
        (some_of (length l) _ (below_at (length m) (of_other l m) (and_right (all_below (length l) (in_other l m)) (all_below (length m) (of_other l m)) e) j h));
  }

  pub are-same-set : (l m : List A) → SameSet d l m → are_same_set d r l m ≡ true
  unfolding are_same_set
  are-same-set l m o =
      and_both
      (below_all (length l) (in_other l m) (λ i h. sym
      (some_at (length m) _ (o.forth i h).which (o.forth i h).below (complete _ _ (o.forth i h).holds))))
      (below_all (length m) (of_other l m) (λ j h. sym
      (some_at (length l) _ (o.back j h).which (o.back j h).below (complete _ _ (o.back j h).holds))))

-- ---- entries that are all different

module _ {A : Type 0} (d : A) where
  pub itself-different : (l : List A) → Matched d (λ a b. a ≡ b) l l → AllDifferent d l
  itself-different l o i k h g e = (o.forth i h).only i h refl ∙ sym ((o.forth i h).only k g e)

  -- two sets of such entries are matched one to one
  pub set-matched : (l m : List A) → AllDifferent d l → AllDifferent d m → SameSet d l m → Matched d (λ a b. a ≡ b) l m
  set-matched l m p q s = record {
    forth = λ i h. record {
      which = (s.forth i h).which;
      below = (s.forth i h).below;
      holds = (s.forth i h).holds;
      only = λ k g e. q k (s.forth i h).which g (s.forth i h).below (sym e ∙ (s.forth i h).holds);
    };
    back = λ j h. record {
      which = (s.back j h).which;
      below = (s.back j h).below;
      holds = (s.back j h).holds;
      only = λ k g e. p k (s.back j h).which g (s.back j h).below (e ∙ sym (s.back j h).holds);
    };
  }

-- ---- to the partner and back

pub there_and_back : {m n : ℕ} {R : ℕ → ℕ → Type 0} (o : OneToOne m n R) (i : ℕ) (h : i < m) → (o.back (o.forth i h).which (o.forth i h).below).which ≡ i
there_and_back o i h = sym ((o.back (o.forth i h).which (o.forth i h).below).only i h (o.forth i h).holds)

pub back-and-there : {m n : ℕ} {R : ℕ → ℕ → Type 0} (o : OneToOne m n R) (j : ℕ) (h : j < n) → (o.forth (o.back j h).which (o.back j h).below).which ≡ j
back-and-there o j h = sym ((o.forth (o.back j h).which (o.back j h).below).only j h (o.back j h).holds)
