-- The number of the first no is 0 exactly when every answer is yes, and n exactly when n is the first that says no. Assumes nothing.
use mathlib.Core.Path.{◌≡◌, refl, sym, ap, ◌∙◌}
use mathlib.Core.Bool.{true, false}
use mathlib.Core.List.{List, [], ◌∷◌, ◌++◌}
use Prim.Native.Nat.{ℕ, zero, suc, ◌<◌}
use native.Mathlib.Omega.{arith}
use Rattle.ask.specs.Ask.{Question, asks, first_no, after_call, AllYes, Numbered}

-- ---- 0 exactly when every answer is yes

pub none-no : (qs : List Question) → AllYes qs → first_no qs ≡ 0
unfolding first_no
none-no [] y = refl
none-no (asks n b ∷ qs) y = rw y.0 (none-no qs y.1)

pub all_yes : (qs : List Question) → Numbered qs → first_no qs ≡ 0 → AllYes qs
unfolding first_no
all_yes [] h e = tt
all_yes (asks n true ∷ qs) h e = (refl, all_yes qs h.1 e)
all_yes (asks n false ∷ qs) h e = absurd (omega (arith, h.0))

-- ---- n exactly when n is the first that says no

-- the questions before are answered yes, and this one no
pub record FirstNo (n : ℕ) (qs : List Question) : Type 0 where
  pub before : List Question
  pub after : List Question
  pub parts : qs ≡ before ++ (asks n false ∷ after)
  pub yes-before : AllYes before

pub first-no : (n : ℕ) (before after : List Question) → AllYes before → first_no (before ++ (asks n false ∷ after)) ≡ n
unfolding first_no
first-no n [] after y = refl
first-no n (asks k b ∷ qs) after y = rw y.0 (first-no n qs after y.1)

pub is-first : (n : ℕ) (qs : List Question) → 0 < n → first_no qs ≡ n → FirstNo n qs
unfolding first_no
is-first n [] h e = absurd (omega arith)
is-first n (asks k true ∷ qs) h e =
    let f : FirstNo n qs = is-first n qs h e in
    record { before = asks k true ∷ f.before; after = f.after; parts = ap (λ (l : List Question). asks k true ∷ l) f.parts; yes-before = (refl, f.yes-before) }
is-first n (asks k false ∷ qs) h e =
    record { before = []; after = qs; parts = ap (λ (j : ℕ). asks j false ∷ qs) e; yes-before = tt }

-- ---- a group of questions before others

-- a group whose answers are all yes leaves the number to the rest
pub group-yes : (qs rest : List Question) → Numbered qs → first_no qs ≡ 0 → first_no (qs ++ rest) ≡ first_no rest
unfolding first_no
group-yes [] rest h e = refl
group-yes (asks n true ∷ qs) rest h e = group-yes qs rest h.1 e
group-yes (asks n false ∷ qs) rest h e = absurd (omega (arith, h.0))

-- a group with a no gives the number
pub group-no : (qs rest : List Question) → (first_no qs ≡ 0 → ⊥) → first_no (qs ++ rest) ≡ first_no qs
unfolding first_no
group-no [] rest h = absurd (h refl)
group-no (asks n true ∷ qs) rest h = group-no qs rest h
group-no (asks n false ∷ qs) rest h = refl

-- ---- what a call leaves

pub after-done : {A : Type 0} (n : ℕ) (new old : A) → n ≡ 0 → new ≡ after_call n new old
after-done zero new old e = refl
after-done (suc n) new old e = absurd (omega arith)

pub after-refused : {A : Type 0} (n : ℕ) (new old : A) → (n ≡ 0 → ⊥) → old ≡ after_call n new old
after-refused zero new old h = absurd (h refl)
after-refused (suc n) new old h = refl

-- the same, where another number tells that it is refused
pub kept : {A : Type 0} (n m : ℕ) (new old : A) → m ≡ n → (n ≡ 0 → ⊥) → old ≡ after_call m new old
kept n m new old e h = after-refused m new old (λ z. h (sym e ∙ z))
