-- Degenerate sets: an id equal to its own place starts a set, and a set goes on to the place before the next start, or to the end of the list.
-- All but `starts_at` speak of a test `p` on places, and name no id.
use Rattle.std.specs.Prelude.{Bool, cond, List, ℕ, zero, suc, ◌-◌, ℤ}
use Rattle.list_laws.specs.Lists.{at}
use Rattle.list_laws.specs.Matrix.{Block, block}
use Rattle.list_laws.specs.Signed.{is_nat}

-- "An id equal to its own place starts a set": whether the place k does
unfoldable pub starts_at : List ℤ → ℕ → Bool
unfolding is_nat
starts_at ids k = is_nat (at ids k) k

-- the first place of the set of b: the last place up to b that starts a set
unfoldable pub start_of : (ℕ → Bool) → ℕ → ℕ
start_of p zero = zero
start_of p (suc b) = cond (p (suc b)) (suc b) (start_of p b)

-- the first place from k on that starts a set, looking at `fuel` places, and the place after those if there is none
unfoldable pub next_from : (ℕ → Bool) → ℕ → ℕ → ℕ
next_from p zero k = k
next_from p (suc fuel) k = cond (p k) k (next_from p fuel (suc k))

-- the place after the last of the set of b, of n places
unfoldable pub end_of : (ℕ → Bool) → ℕ → ℕ → ℕ
unfolding next_from
end_of p n b = next_from p (n - suc b) (suc b)

-- the block of the entry (r, c) of n bands by n bands: the set of its row, by the test p, times the set of its column, by the test q
abbrev pub block_of : (ℕ → Bool) → (ℕ → Bool) → ℕ → ℕ → ℕ → Block
block_of p q n r c = block (start_of p r) (end_of p n r) (start_of q c) (end_of q n c)
