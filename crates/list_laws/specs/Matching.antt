-- Two collections that are the same up to their order: exactly one number that has a property, numbers matched one to one, lists whose entries are, lists with the same entries, and the tests that are computed.
use Rattle.std.specs.Prelude.{◌≡◌, Bool, ◌&&◌, List, ℕ, ◌<◌, eqb, length, get_or}
use Rattle.list_laws.specs.Lists.{all_below, some_below, count_below}

-- exactly one of 0, 1, .., n - 1 has P
pub record ExactlyOne (n : ℕ) (P : ℕ → Type 0) : Type 0 where
  pub which : ℕ
  pub below : which < n
  pub holds : P which
  pub only : (k : ℕ) → k < n → P k → k ≡ which

-- at least one has
pub record SomeOne (n : ℕ) (P : ℕ → Type 0) : Type 0 where
  pub which : ℕ
  pub below : which < n
  pub holds : P which

-- R matches 0, 1, .., m - 1 one to one with 0, 1, .., n - 1: each has exactly one partner
pub record OneToOne (m n : ℕ) (R : ℕ → ℕ → Type 0) : Type 0 where
  pub forth : (i : ℕ) → i < m → ExactlyOne n (R i)
  pub back : (j : ℕ) → j < n → ExactlyOne m (λ i. R i j)

-- each entry of l is R to exactly one entry of m, and each entry of m has exactly one such entry of l; d is what no entry reads as
abbrev pub Matched : {A : Type 0} → A → (A → A → Type 0) → List A → List A → Type 0
Matched d R l m = OneToOne (length l) (length m) (λ i j. R (get_or l i d) (get_or m j d))

-- l and m as sets: each entry of one is an entry of the other
pub record SameSet {A : Type 0} (d : A) (l m : List A) : Type 0 where
  pub forth : (i : ℕ) → i < length l → SomeOne (length m) (λ j. get_or l i d ≡ get_or m j d)
  pub back : (j : ℕ) → j < length m → SomeOne (length l) (λ i. get_or l i d ≡ get_or m j d)

-- no two entries of l are equal
abbrev pub AllDifferent : {A : Type 0} → A → List A → Type 0
AllDifferent d l = (i k : ℕ) → i < length l → k < length l → get_or l i d ≡ get_or l k d → i ≡ k

-- ---- the tests

-- each has one partner, by count
unfoldable pub is_one_to_one : ℕ → ℕ → (ℕ → ℕ → Bool) → Bool
is_one_to_one m n r = all_below m (λ i. eqb (count_below n (r i)) 1) && all_below n (λ j. eqb (count_below m (λ i. r i j)) 1)

abbrev pub are_matched : {A : Type 0} → A → (A → A → Bool) → List A → List A → Bool
are_matched d r l m = is_one_to_one (length l) (length m) (λ i j. r (get_or l i d) (get_or m j d))

-- each entry of one is, by the test of equality, one of the other
unfoldable pub are_same_set : {A : Type 0} → A → (A → A → Bool) → List A → List A → Bool
are_same_set d r l m =
    all_below (length l) (λ i. some_below (length m) (λ j. r (get_or l i d) (get_or m j d)))
    && all_below (length m) (λ j. some_below (length l) (λ i. r (get_or l i d) (get_or m j d)))
