-- The questions of a call in their order, the first that is answered no, and what a refused call leaves.
use Rattle.std.specs.Prelude.{◌≡◌, Bool, true, cond, List, [], ◌∷◌, ℕ, zero, suc, ◌<◌}

-- a question: its number, and whether its answer is yes
pub data Question : Type 0 where
  asks : ℕ → Bool → Question

-- "The first "no" is the result; it carries its number alone": that number, and 0 where every answer is yes.
unfoldable pub first_no : List Question → ℕ
first_no [] = 0
first_no (asks n b ∷ qs) = cond b (first_no qs) n

-- Demand 1, a refused call changes no lent buffer: what a buffer holds after a call, by the number of its first no
abbrev pub after_call : {A : Type 0} → ℕ → A → A → A
after_call zero new old = new
after_call (suc n) new old = old

-- every answer is yes
abbrev pub AllYes : List Question → Type 0
AllYes [] = Unit
AllYes (asks n b ∷ qs) = (b ≡ true) × AllYes qs

-- no question has the number 0
abbrev pub Numbered : List Question → Type 0
Numbered [] = Unit
Numbered (asks n b ∷ qs) = (0 < n) × Numbered qs
