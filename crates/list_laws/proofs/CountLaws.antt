-- How many entries of a list pass a test, the places that do, and what holds of each entry. Assumes nothing.
use mathlib.Core.Path.{◌≡◌, refl, sym, ap, ◌∙◌}
use mathlib.Core.Bool.{Bool, true, false, ◌&&◌, cond}
use mathlib.Core.List.{List, [], ◌∷◌, ◌++◌, map, append-nil}
use mathlib.Core.Logic.{⊎_elim}
use Prim.Native.Nat.{ℕ, zero, suc, ◌+◌, ◌-◌, ◌*◌, ◌≤◌, ◌<◌}
use native.Mathlib.Nat.{add-zero, add-suc, zero-mul, one-mul}
use native.Mathlib.Omega.{arith}
use lib.Dec.{eqb}
use borrow.Author.Tests.{eq-eqb, ne_eqb}
use Rattle.list_laws.specs.Lists.{one_if, count_below, places_below, how_many, Each}
use Rattle.list_laws.proofs.BoolLaws.{lt-or-le}

-- ---- places

pub count_none : (n : ℕ) (p : ℕ → Bool) → ((k : ℕ) → k < n → p k ≡ false) → count_below n p ≡ 0
unfolding count_below
count_none zero p h = refl
count_none (suc n) p h = rw (count_none n p (λ k l. h k (omega arith)), h n (omega arith)) (omega arith)

-- one place is one
pub count-one : (n j : ℕ) → j < n → count_below n (λ k. eqb k j) ≡ 1
unfolding count_below
count-one zero j h = absurd (omega arith)
count-one (suc n) j h =
    ⊎_elim
    (λ l. rw (count-one n j l, ne_eqb n j (λ e. omega arith)) (omega arith))
    (λ l.
    rw (count_none n (λ k. eqb k j) (λ k g. ne_eqb k j (λ e. omega arith)), eq-eqb n j (omega arith)) (omega arith))
    (lt-or-le j n)

-- none of the k places from n on
places-none : (p : ℕ → Bool) (n k : ℕ) → ((j : ℕ) → n ≤ j → j < n + k → p j ≡ false) → places_below (n + k) p ≡ places_below n p
unfolding places_below
places-none p n zero h = ap (λ (j : ℕ). places_below j p) (add-zero n)
places-none p n (suc k) h =
    ap (λ (j : ℕ). places_below j p) (add-suc n k)
    ∙ ap (λ (b : Bool). places_below (n + k) p ++ cond b ((n + k) ∷ []) []) (h (n + k) (omega arith) (omega arith))
    ∙ append-nil (places_below (n + k) p)
    ∙ places-none p n k (λ j u v. h j u (omega arith))

-- the place k, and none between it and n
pub places-next : (p : ℕ → Bool) (k n : ℕ) → p k ≡ true → k < n → ((j : ℕ) → k < j → j < n → p j ≡ false)
    → places_below n p ≡ places_below k p ++ (k ∷ [])
unfolding places_below
places-next p k n hit l none =
    let e : n ≡ suc k + (n - suc k) = omega arith in
    ap (λ (j : ℕ). places_below j p) e
    ∙ places-none p (suc k) (n - suc k) (λ j u v. none j (omega arith) (omega arith))
    ∙ ap (λ (b : Bool). places_below k p ++ cond b (k ∷ []) []) hit

-- ---- how many

pub many-append : {A : Type 0} (t : A → Bool) (l m : List A) → how_many t (l ++ m) ≡ how_many t l + how_many t m
unfolding how_many
many-append t [] m = omega arith
many-append t (x ∷ l) m = omega (arith, many-append t l m)

pub many-map : {A B : Type 0} (t : B → Bool) (f : A → B) (l : List A) → how_many t (map f l) ≡ how_many (λ x. t (f x)) l
unfolding how_many
many-map t f [] = refl
many-map t f (x ∷ l) = ap (λ (k : ℕ). one_if (t (f x)) + k) (many-map t f l)

many-none : {A : Type 0} (l : List A) → how_many (λ x. false) l ≡ 0
unfolding how_many
many-none [] = refl
many-none (x ∷ l) = omega (arith, many-none l)

-- a condition that is the same for all
pub many-both : {A : Type 0} (b : Bool) (t : A → Bool) (l : List A) → how_many (λ x. b && t x) l ≡ one_if b * how_many t l
many-both true t l = omega (arith, one-mul (how_many t l))
many-both false t l = many-none l ∙ sym (zero-mul (how_many t l))

-- of the places that pass p, those that pass t too
pub many-places : (n : ℕ) (p t : ℕ → Bool) → how_many t (places_below n p) ≡ count_below n (λ k. p k && t k)
unfolding how_many places_below count_below
many-places zero p t = refl
many-places (suc n) p t =
    many-append t (places_below n p) (cond (p n) (n ∷ []) [])
    ∙ omega (arith, many-places n p t, last (p n))
  where
    last : (b : Bool) → how_many t (cond b (n ∷ []) []) ≡ one_if (b && t n)
    last true = omega arith
    last false = refl

-- ---- each

module _ {A : Type 0} (P : A → Type 0) where
  pub each_append : (l m : List A) → Each P l → Each P m → Each P (l ++ m)
  each_append [] m e f = f
  each_append (x ∷ l) m e f = (e.0, each_append l m e.1 f)

  pub each-as : (Q : A → Type 0) → ((x : A) → P x → Q x) → (l : List A) → Each P l → Each Q l
  each-as Q f [] e = tt
  each-as Q f (x ∷ l) e = (f x e.0, each-as Q f l e.1)

pub each_map : {A B : Type 0} (P : B → Type 0) (f : A → B) (l : List A) → Each (λ x. P (f x)) l → Each P (map f l)
each_map P f [] e = tt
each_map P f (x ∷ l) e = (e.0, each_map P f l e.1)

pub each-place : (P : ℕ → Type 0) (n : ℕ) (p : ℕ → Bool) → ((k : ℕ) → k < n → p k ≡ true → P k) → Each P (places_below n p)
unfolding places_below
each-place P zero p h = tt
each-place P (suc n) p h =
    each_append P (places_below n p) (cond (p n) (n ∷ []) []) (each-place P n p (λ k l. h k (omega arith))) (last (p n) (h n (omega arith)))
  where
    last : (b : Bool) → (b ≡ true → P n) → Each P (cond b (n ∷ []) [])
    last true g = (g refl, tt)
    last false g = tt
