-- What averaging makes of matrices of n bands by n bands, by any rule of what becomes of an entry in its block.
use Rattle.std.specs.Prelude.{List, ℕ, ◌*◌, ◌/◌, ◌%◌, ℤ}
use Rattle.list_laws.specs.Lists.{tabulate}
use Rattle.list_laws.specs.Matrix.{Block, each_part}
use Rattle.degenerate_sets.specs.Sets.{starts_at, start_of, end_of, block_of}
use Rattle.degenerate_sets.specs.Blocks.{blocks_of}
use Rattle.degenerate_sets.specs.Turns.{in_turn}

-- a rule: what becomes of the entry (r, c), in the block b of the matrix m of n bands by n bands, is `rule n b m r c`
abbrev pub Rule : Type 0 → Type 0
Rule A = ℕ → Block → List A → ℕ → ℕ → A

-- the matrix after averaging over the blocks of two id lists
unfoldable pub averaged_by : {A : Type 0} → Rule A → ℕ → List ℤ → List ℤ → List A → List A
unfolding tabulate starts_at start_of end_of
averaged_by rule n ids1 ids2 m =
    tabulate (n * n) (λ k. rule n (block_of (starts_at ids1) (starts_at ids2) n (k / n) (k % n)) m (k / n) (k % n))

-- the same, block after block: what each block of the two id lists in turn makes of the matrix (`averaged-in-turn`)
abbrev pub blocks_in_turn : {A : Type 0} → Rule A → ℕ → List ℤ → List ℤ → List A → List A
blocks_in_turn rule n ids1 ids2 m = in_turn n (rule n) (blocks_of n ids1 ids2) m

-- the matrices of several frequency points, one after another, each averaged by itself
unfoldable pub points_by : {A : Type 0} → Rule A → ℕ → List ℤ → List ℤ → ℕ → List A → List A
unfolding averaged_by each_part
points_by rule bands ids1 ids2 points l = each_part (bands * bands) (averaged_by rule bands ids1 ids2) points l
