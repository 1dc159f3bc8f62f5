-- What averaging makes of flags: "a block with any flag 0 becomes all 0".
use Rattle.std.specs.Prelude.{Bool, false, cond, ◌||◌, List, ℕ, zero, suc, ◌+◌, ◌-◌, ◌*◌, ℤ, pos}
use Rattle.list_laws.specs.Lists.{at}
use Rattle.list_laws.specs.Matrix.{Block}
use Rattle.list_laws.specs.Signed.{eq_z}
use Rattle.degenerate_sets.specs.Blocks.{blocks_of}
use Rattle.degenerate_sets.specs.Turns.{in_turn}
use Rattle.degenerate_sets.specs.Averages.{averaged_by, points_by}

-- whether one of `wide` flags from `from` on is 0
unfoldable pub row_has_zero : List ℤ → ℕ → ℕ → Bool
row_has_zero m from zero = false
row_has_zero m from (suc wide) = row_has_zero m from wide || eq_z (at m (from + wide)) (pos 0)

-- whether one of `high` rows from row `top` on, each of `wide` flags from column `left` on, has a 0
unfoldable pub rows_have_zero : List ℤ → ℕ → ℕ → ℕ → ℕ → ℕ → Bool
unfolding row_has_zero
rows_have_zero m n top left wide zero = false
rows_have_zero m n top left wide (suc high) = rows_have_zero m n top left wide high || row_has_zero m ((top + high) * n + left) wide

-- whether the block b has a 0
abbrev pub has_zero : ℕ → Block → List ℤ → Bool
has_zero n b m = rows_have_zero m n b.top b.left (b.right - b.left) (b.bottom - b.top)

-- what becomes of the flag (r, c), in the block b
unfoldable pub flag_in : ℕ → Block → List ℤ → ℕ → ℕ → ℤ
unfolding rows_have_zero
flag_in n b m r c = cond (has_zero n b m) (pos 0) (at m (r * n + c))

-- the flags of n bands by n bands after averaging
abbrev pub averaged_flags : ℕ → List ℤ → List ℤ → List ℤ → List ℤ
averaged_flags = averaged_by flag_in

-- the same, block after block: what each block of the two id lists in turn makes of the flags (`flags-in-turn`)
abbrev pub flags_in_turn : ℕ → List ℤ → List ℤ → List ℤ → List ℤ
flags_in_turn n ids1 ids2 m = in_turn n (flag_in n) (blocks_of n ids1 ids2) m

-- the flags of several frequency points, one after another, each point's by themselves
abbrev pub averaged_flag_points : ℕ → List ℤ → List ℤ → ℕ → List ℤ → List ℤ
averaged_flag_points = points_by flag_in
