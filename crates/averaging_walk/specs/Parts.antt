-- A block of the program, and what it becomes.
use Rattle.std.specs.Prelude.{◌≡◌, List, ℕ, ◌+◌, ◌-◌, ◌*◌, ℤ, Bool, Float, MatchOption, get_or}
use Rattle.std.specs.declared.option.Option.{Option}
use Rattle.list_laws.specs.Matrix as matrix
use Rattle.ieee_laws.specs.Zeros.{plus_zero}
use Rattle.averaging_flags.specs.Flags.{has_zero}
use Rattle.averaging_blocks.specs.Weights.{block_sum}
use Rattle.averaging_walk.specs.declared.kernel.block.Block.{Block}

-- the block of the matrix
abbrev pub part_of : {A : Type 0} → Block A → matrix.Block
part_of b = matrix.block b.top b.bottom b.left b.right

-- the same rows and columns of the same lent matrix
pub record IsSamePlace {A : Type 0} (old new : Block A) : Type 0 where
  pub matrix : new.matrix.ghost_name ≡ old.matrix.ghost_name
  pub n : new.n ≡ old.n
  pub top : new.top ≡ old.top
  pub bottom : new.bottom ≡ old.bottom
  pub left : new.left ≡ old.left
  pub right : new.right ≡ old.right

-- what the rule says of each entry of the block: the value, and itself where there is none
abbrev pub Becomes : {A : Type 0} → A → (matrix.Block → List A → ℕ → ℕ → A) → Block A → Option A → Type 0
Becomes d rule b value =
    let m = b.matrix.now in
    MatchOption value
    ((r c : ℕ) → matrix.InBlock (part_of b) r c → get_or m (r * b.n + c) d ≡ rule (part_of b) m r c)
    (λ v. (r c : ℕ) → matrix.InBlock (part_of b) r c → v ≡ rule (part_of b) m r c)

-- whether the block has a 0
abbrev pub part_has_zero : Block ℤ → Bool
part_has_zero b = has_zero b.n (part_of b) b.matrix.now

-- the sum of the row sums of the block
abbrev pub part_sum : Block Float → Float
part_sum b = block_sum plus_zero b.matrix.now b.n b.top b.left (b.right - b.left) (b.bottom - b.top)
