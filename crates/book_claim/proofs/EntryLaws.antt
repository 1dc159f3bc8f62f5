-- `each_entry f l`: its length and entries, and what a patch makes of it. Lists that are mapped. Assumes nothing.
use mathlib.Core.Path.{◌≡◌, refl, ap}
use mathlib.Core.Bool.{Bool, cond}
use mathlib.Core.List.{List, [], ◌∷◌}
use Prim.Native.Nat.{ℕ, zero, suc, ◌<◌, suc-le-suc}
use native.Mathlib.Nat.{le_of_suc-le-suc, not-suc-le-zero, zero-lt-suc}
use lib.ListN.{length, get_or}
use Rattle.list_laws.specs.Patch.{patch}
use Rattle.book_claim.specs.Book.{each_entry}

module _ {A : Type 0} where
  pub length-each : (f : ℕ → A → A) (l : List A) → length (each_entry f l) ≡ length l
  unfolding each_entry
  length-each f [] = refl
  length-each f (x ∷ xs) = ap suc (length-each (λ i. f (suc i)) xs)

  pub get_or-each : (f : ℕ → A → A) (l : List A) (i : ℕ) (d : A) → i < length l → get_or (each_entry f l) i d ≡ f i (get_or l i d)
  unfolding each_entry
  get_or-each f [] i d h = absurd (not-suc-le-zero h)
  get_or-each f (x ∷ xs) zero d h = refl
  get_or-each f (x ∷ xs) (suc i) d h = get_or-each (λ i. f (suc i)) xs i d (le_of_suc-le-suc h)

  -- each entry stays: the list stays
  pub each_none : (f : ℕ → A → A) (l : List A) → ((i : ℕ) (x : A) → f i x ≡ x) → each_entry f l ≡ l
  unfolding each_entry
  each_none f [] h = refl
  each_none f (x ∷ xs) h = λ k. h zero x k ∷ each_none (λ i. f (suc i)) xs (λ i y. h (suc i) y) k

  -- some entries of such a list replaced: again such a list
  pub patch-each : (own : ℕ → Bool) (new : ℕ → A) (f f' : ℕ → A → A) (l : List A)
      → ((i : ℕ) → i < length l → (x : A) → cond (own i) (new i) (f i x) ≡ f' i x) → patch own new (each_entry f l) ≡ each_entry f' l
  unfolding each_entry patch
  patch-each own new f f' [] h = refl
  patch-each own new f f' (x ∷ xs) h =
      λ k. h zero (zero-lt-suc (length xs)) x k
      ∷ patch-each (λ i. own (suc i)) (λ i. new (suc i)) (λ i. f (suc i)) (λ i. f' (suc i)) xs (λ i b. h (suc i) (suc-le-suc b)) k
