-- Lent lists, and what a call leaves in one.
use Rattle.std.specs.Prelude.{◌≡◌, List, ℕ}
use Rattle.std.specs.Borrow.{Bor, MutBor}
use denote.Triple.Both.{Both}
use Rattle.ask.specs.Ask.{after_call}

-- a lent list, at a call's entry and at its exit
abbrev pub Lent : Type 0 → Type 0
Lent A = Both (Bor (List A)) (Bor (List A))

-- a list lent to be written, likewise
abbrev pub LentMut : Type 0 → Type 0
LentMut A = Both (MutBor (List A)) (MutBor (List A))

-- what a call leaves in a buffer, by the number of its first no: its new content, and after a refusal the old one
abbrev pub Leaves : {A : Type 0} → ℕ → List A → LentMut A → Type 0
Leaves n new buffer = buffer.exit.now ≡ after_call n new buffer.entry.now
