-- Where weights and flags lie. A cell is a place of the flags: triplet, point, b1, b2; a weight's place is a channel and a cell.
-- A piece is a triplet, b1 and b2; its number is the place of its mark.
use Rattle.std.specs.Prelude.{Bool, cond, ◌≡◌, List, ℕ, ◌+◌, ◌*◌, ◌/◌, ◌%◌, eqb, Float, ℤ}
use Rattle.list_laws.specs.Patch.{patch}
use Rattle.triplet_outputs.specs.declared.Outputs.{Outputs}
use Rattle.triplet_study.specs.declared.Sizes.{Sizes}
use Rattle.ask.specs.Lent.{LentMut}

-- of cell j, with so many points and band pairs: its triplet
unfoldable pub triplet_at : ℕ → ℕ → ℕ → ℕ
triplet_at points pairs j = j / pairs / points

-- its point
unfoldable pub point_at : ℕ → ℕ → ℕ → ℕ
point_at points pairs j = j / pairs % points

-- its band pair: b1 * bands2 + b2
unfoldable pub pair_at : ℕ → ℕ → ℕ → ℕ
pair_at points pairs j = j % pairs

-- its piece
unfoldable pub piece_at : ℕ → ℕ → ℕ → ℕ
piece_at points pairs j = triplet_at points pairs j * pairs + pair_at points pairs j

-- the cell of a triplet and a band pair at point x
abbrev pub cell_of : ℕ → ℕ → ℕ → ℕ → ℕ → ℕ
cell_of points pairs t pair x = (t * points + x) * pairs + pair

-- an output by its channel
unfoldable pub channel_of : Outputs → ℕ → Float
channel_of o c = cond (eqb c 0) o.w0 (cond (eqb c 1) o.w1 o.w2)

-- the weights once those of one cell are written, in every channel
unfoldable pub cell_weights : ℕ → ℕ → Outputs → List Float → List Float
cell_weights cells cell o l = patch (λ i. eqb (i % cells) cell) (λ i. channel_of o (i / cells)) l

-- a list once the entries of the pieces that `own` picks hold their values, place i being of cell `cell i`
abbrev pub patch_pieces : {A : Type 0} → Sizes → (ℕ → ℕ) → (ℕ → Bool) → (ℕ → A) → List A → List A
patch_pieces z cell own value l = patch (λ i. own (piece_at z.points z.pairs (cell i))) value l

-- the weight at place i of a piece whose outputs at point x are o x, and the flag at place j
abbrev pub weight_by : Sizes → (ℕ → Outputs) → ℕ → Float
weight_by z o i = channel_of (o (point_at z.points z.pairs (i % z.cells))) (i / z.cells)

abbrev pub flag_by : Sizes → (ℕ → Outputs) → ℕ → ℤ
flag_by z o j = (o (point_at z.points z.pairs j)).flag

-- "Running a piece writes its own entries at every point": the weights once piece q is written
unfoldable pub piece_weights : Sizes → ℕ → (ℕ → Outputs) → List Float → List Float
piece_weights z q o l = patch_pieces z (λ i. i % z.cells) (λ n. eqb n q) (weight_by z o) l

-- the flags once it is
unfoldable pub piece_flags : Sizes → ℕ → (ℕ → Outputs) → List ℤ → List ℤ
piece_flags z q o l = patch_pieces z (λ j. j) (λ n. eqb n q) (flag_by z o) l

-- weights and flags once piece q is written
pub record AreWritten (z : Sizes) (q : ℕ) (o : ℕ → Outputs) (weights : List Float) (flags : List ℤ) (weights' : List Float) (flags' : List ℤ) : Type 0 where
  pub weights-are : weights' ≡ piece_weights z q o weights
  pub flags-are : flags' ≡ piece_flags z q o flags

-- a call writes piece q
abbrev pub WritesPiece : Sizes → ℕ → (ℕ → Outputs) → LentMut Float → LentMut ℤ → Type 0
WritesPiece z q o weights flags = AreWritten z q o weights.entry.now flags.entry.now weights.exit.now flags.exit.now
