-- What becomes of a matrix of n bands by n bands when each block of a list has its turn.
use mathlib.Core.List.{List, foldl}
use Rattle.std.specs.Prelude.{◌≡◌, ℕ, ◌+◌, ◌*◌, ◌/◌, ◌%◌, ◌≤◌, ◌<◌, get_or}
use Rattle.list_laws.specs.Matrix.{Block, InBlock, has_entry}
use Rattle.list_laws.specs.Patch.{patch}

-- one block: each of its entries becomes what the rule says of it in the matrix m, every other entry stays
abbrev pub on_block : {A : Type 0} → ℕ → (Block → List A → ℕ → ℕ → A) → List A → Block → List A
on_block n rule m b = patch (λ k. has_entry (k / n) (k % n) b) (λ k. rule b m (k / n) (k % n)) m

-- the blocks of a list in turn, each in the matrix that the one before it left
abbrev pub in_turn : {A : Type 0} → ℕ → (Block → List A → ℕ → ℕ → A) → List Block → List A → List A
in_turn n rule blocks m = foldl (on_block n rule) m blocks

-- the rule looks at no entry outside its block: two matrices that agree in the block give the same
abbrev pub Local : {A : Type 0} → A → ℕ → (Block → List A → ℕ → ℕ → A) → Type 0
Local d n rule =
    (b : Block) (m m' : List _) → b.right ≤ n → ((r c : ℕ) → c < n → InBlock b r c → get_or m (r * n + c) d ≡ get_or m' (r * n + c) d)
    → (r c : ℕ) → InBlock b r c → rule b m r c ≡ rule b m' r c
