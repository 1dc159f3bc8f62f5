-- Blocks that have their turn one after another, no two with an entry in common: an entry of one becomes what the rule says of it in the matrix as
-- it was before the first turn, an entry of none stays; the blocks of two id lists make of each entry what the rule says in its own block. For any
-- rule that looks at no entry outside its block. Assumes nothing.
use mathlib.Core.Path.{◌≡◌, refl, sym, ap, ◌∙◌}
use mathlib.Core.Logic.{⊎_elim}
use mathlib.Core.Bool.{Bool, true, false, cond, ◌&&◌, true≢false}
use mathlib.Core.List.{List, [], ◌∷◌}
use Prim.Native.Nat.{ℕ, ◌+◌, ◌*◌, ◌/◌, ◌%◌, ◌≤◌, ◌<◌}
use native.Mathlib.Omega.{arith}
use lib.Dec.{ltb}
use lib.IntN.{ℤ}
use lib.ListN.{length, get_or}
use borrow.Author.Tests.{lt-ltb}
use Rattle.list_laws.specs.Lists.{one_if, tabulate, how_many, Each}
use Rattle.list_laws.specs.Matrix.{Block, InBlock, has_entry}
use Rattle.list_laws.proofs.BoolLaws.{true-or-false}
use Rattle.list_laws.proofs.MapLaws.{one-le}
use Rattle.list_laws.proofs.MatrixLaws.{place-row, place-column, in-has, square-is}
use Rattle.list_laws.proofs.PatchLaws.{length-patch, get_or-patch}
use Rattle.list_laws.proofs.ProductLaws.{digit_lt}
use Rattle.degenerate_sets.specs.Sets.{starts_at, start_of, end_of, block_of}
use Rattle.degenerate_sets.specs.Blocks.{degenerate_set, blocks_of}
use Rattle.degenerate_sets.specs.Turns.{Local, on_block, in_turn}
use Rattle.degenerate_sets.proofs.SetLaws.{ends, start-le, start-start, end-start}
use Rattle.degenerate_sets.proofs.CoverLaws.{IsSet, set_own}
use Rattle.degenerate_sets.proofs.BlockLaws.{blocks-cover, blocks-own}

module _ {A : Type 0} (n : ℕ) (rule : Block → List A → ℕ → ℕ → A) where
  block-length : (m : List A) (b : Block) → length (on_block n rule m b) ≡ length m
  block-length m b = length-patch (λ k. has_entry (k / n) (k % n) b) (λ k. rule b m (k / n) (k % n)) m

  turn-length : (blocks : List Block) (m : List A) → length (in_turn n rule blocks m) ≡ length m
  turn-length [] m = refl
  turn-length (b ∷ blocks) m = turn-length blocks (on_block n rule m b) ∙ block-length m b

  -- a matrix keeps its length
  pub turned-length : (blocks : List Block) (m₀ m : List A) → m ≡ in_turn n rule blocks m₀ → length m ≡ length m₀
  turned-length blocks m₀ m e = ap length e ∙ turn-length blocks m₀

module _ {A : Type 0} (d : A) (n : ℕ) (rule : Block → List A → ℕ → ℕ → A) where
  -- one entry, after one block's turn
  block-entry : (m : List A) (b : Block) → length m ≡ n * n → (r c : ℕ) → r < n → c < n
      → get_or (on_block n rule m b) (r * n + c) d ≡ cond (has_entry r c b) (rule b m r c) (get_or m (r * n + c) d)
  block-entry m b len r c h l =
      get_or-patch (λ k. has_entry (k / n) (k % n) b) (λ k. rule b m (k / n) (k % n)) m (r * n + c) d (omega (arith, digit_lt r n c n h l))
      ∙ (λ i. cond (has_entry (place-row n r c l i) (place-column n r c l i) b) (rule b m (place-row n r c l i) (place-column n r c l i)) (get_or m (r * n + c) d))

  entry_in : (m : List A) (b : Block) → length m ≡ n * n → (r c : ℕ) → r < n → c < n → has_entry r c b ≡ true
      → get_or (on_block n rule m b) (r * n + c) d ≡ rule b m r c
  entry_in m b len r c h l t = block-entry m b len r c h l ∙ rw t

  entry-out : (m : List A) (b : Block) → length m ≡ n * n → (r c : ℕ) → r < n → c < n → has_entry r c b ≡ false
      → get_or (on_block n rule m b) (r * n + c) d ≡ get_or m (r * n + c) d
  entry-out m b len r c h l t = block-entry m b len r c h l ∙ rw t

-- `own r c` is the block of the entry (r, c): it has that entry, lies in the matrix, and is the block of each of its entries
module _ {A : Type 0} (d : A) (n : ℕ) (rule : Block → List A → ℕ → ℕ → A)
    (local : Local d n rule)
    (own : ℕ → ℕ → Block)
    (has : (r c : ℕ) → r < n → c < n → InBlock (own r c) r c)
    (inside : (r c : ℕ) → r < n → c < n → ((own r c).bottom ≤ n) × ((own r c).right ≤ n))
    (same : (r c r' c' : ℕ) → r < n → c < n → InBlock (own r c) r' c' → own r' c' ≡ own r c) where
  -- a block that has not the entry (r, c) leaves what the rule says of it
  other-turn : (m : List A) (b : Block) → length m ≡ n * n → ((r c : ℕ) → has_entry r c b ≡ true → b ≡ own r c)
      → (r c : ℕ) → r < n → c < n → has_entry r c b ≡ false → rule (own r c) (on_block n rule m b) r c ≡ rule (own r c) m r c
  other-turn m b len is r c h l out =
      local (own r c) (on_block n rule m b) m (inside r c h l).1
      (λ r' c' l' i.
      let h' : r' < n = omega (arith, (inside r c h l).0) in
      ⊎_elim
      (λ t.
      let e : b ≡ own r c = is r' c' t ∙ same r c r' c' h l i in
      absurd (true≢false (sym (ap (has_entry r c) e ∙ in-has r c (own r c) (has r c h l)) ∙ out)))
      (λ t. entry-out d n rule m b len r' c' h' l' t)
      (true-or-false (has_entry r' c' b)))
      r c (has r c h l)

  turn-entry : (blocks : List Block) (m : List A) → length m ≡ n * n
      → Each (λ b. (r c : ℕ) → has_entry r c b ≡ true → b ≡ own r c) blocks → ((r c : ℕ) → how_many (has_entry r c) blocks ≤ 1)
      → (r c : ℕ) → r < n → c < n
      → get_or (in_turn n rule blocks m) (r * n + c) d ≡ cond (ltb 0 (how_many (has_entry r c) blocks)) (rule (own r c) m r c) (get_or m (r * n + c) d)
  unfolding how_many
  turn-entry [] m len is once r c h l = refl
  turn-entry (b ∷ blocks) m len is once r c h l =
      let rest : ℕ = how_many (has_entry r c) blocks in
      let m' : List A = on_block n rule m b in
      let now : ℕ → A = λ k. cond (ltb 0 k) (rule (own r c) m r c) (get_or m (r * n + c) d) in
      let then : ℕ → A = λ k. cond (ltb 0 k) (rule (own r c) m' r c) (get_or m' (r * n + c) d) in
      turn-entry blocks m' (block-length n rule m b ∙ len) is.1 (λ r c. omega (arith, once r c)) r c h l
      ∙ ⊎_elim
      (λ t.
      let one : one_if (has_entry r c b) ≡ 1 = ap one_if t in
      ap then {x = rest} {y = 0} (omega (arith, once r c))
      ∙ entry_in d n rule m b len r c h l t
      ∙ ap (λ (b' : Block). rule b' m r c) (is.0 r c t)
      ∙ ap now {x = 1} {y = one_if (has_entry r c b) + rest} (omega (arith, once r c)))
      (λ t.
      let none : one_if (has_entry r c b) ≡ 0 = ap one_if t in
      (λ i. cond (ltb 0 rest) (other-turn m b len is.0 r c h l t i) (entry-out d n rule m b len r c h l t i))
      ∙ ap now {x = rest} {y = one_if (has_entry r c b) + rest} (omega arith))
      (true-or-false (has_entry r c b))

-- ---- the block of an entry

-- the set of a place
set-of : (p : ℕ → Bool) (n b : ℕ) → b < n → IsSet p n (degenerate_set (start_of p b) (end_of p n b))
set-of p n b h = (omega (arith, start-le p b), (start-start p b, sym (end-start p n b h)))

module _ (p q : ℕ → Bool) (n : ℕ) where
  block-has : (r c : ℕ) → r < n → c < n → InBlock (block_of p q n r c) r c
  block-has r c h l =
      let x = ends p n r h in
      let y = ends q n c l in
      ((start-le p r, x.after), (start-le q c, y.after))

  block_inside : (r c : ℕ) → r < n → c < n → (end_of p n r ≤ n) × (end_of q n c ≤ n)
  block_inside r c h l =
      let x = ends p n r h in
      let y = ends q n c l in
      (x.upto, y.upto)

  block_same : (r c r' c' : ℕ) → r < n → c < n → InBlock (block_of p q n r c) r' c' → block_of p q n r' c' ≡ block_of p q n r c
  block_same r c r' c' h l i =
      let rows = set_own p n r' (degenerate_set (start_of p r) (end_of p n r)) (set-of p n r h) i.0.0 i.0.1 in
      let columns = set_own q n c' (degenerate_set (start_of q c) (end_of q n c)) (set-of q n c l) i.1.0 i.1.1 in
      cc (rows.0, rows.1, columns.0, columns.1)

-- ---- the blocks of two id lists

-- each entry becomes what the rule says of it in its own block
pub matrix-in-turn : {A : Type 0} (d : A) (n : ℕ) (rule : Block → List A → ℕ → ℕ → A)
    (local : Local d n rule)
    (ids1 ids2 : List ℤ) (m : List A) → length m ≡ n * n
    → in_turn n rule (blocks_of n ids1 ids2) m ≡ tabulate (n * n) (λ k. rule (block_of (starts_at ids1) (starts_at ids2) n (k / n) (k % n)) m (k / n) (k % n))
matrix-in-turn d n rule local ids1 ids2 m len =
    let p : ℕ → Bool = starts_at ids1 in
    let q : ℕ → Bool = starts_at ids2 in
    square-is d n (λ r c. rule (block_of p q n r c) m r c) (in_turn n rule (blocks_of n ids1 ids2) m)
    (turn-length n rule (blocks_of n ids1 ids2) m ∙ len)
    (λ r c h l.
    turn-entry d n rule local (block_of p q n) (block-has p q n) (block_inside p q n) (block_same p q n) (blocks_of n ids1 ids2) m len
    (blocks-own n ids1 ids2)
    (λ r c. omega (arith, blocks-cover n ids1 ids2 r c, one-le (ltb r n && ltb c n)))
    r c h l
    ∙ rw (blocks-cover n ids1 ids2 r c, lt-ltb r n h, lt-ltb c n l))
