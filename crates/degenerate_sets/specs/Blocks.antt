-- The degenerate sets of an id list and the blocks of two id lists, as lists, in the order in which the averaging walks them.
use Rattle.std.specs.Prelude.{◌≡◌, Bool, true, ◌&&◌, List, [], ◌∷◌, ◌++◌, map, ℕ, zero, suc, ◌<◌, leb, ltb, ℤ}
use Rattle.list_laws.specs.Lists.{places_below}
use Rattle.list_laws.specs.Matrix.{Block, block, entries}
use Rattle.degenerate_sets.specs.Sets.{starts_at, end_of}

-- a degenerate set: the bands from `start` up to below `end`
pub record DegenerateSet : Type 0 where
  pub start : ℕ
  pub end : ℕ

-- a set by its two numbers
abbrev pub degenerate_set : ℕ → ℕ → DegenerateSet
degenerate_set start end = record { start = start; end = end }

-- whether the place k is in the set
abbrev pub has_place : ℕ → DegenerateSet → Bool
has_place k s = leb s.start k && ltb k s.end

-- whether the place k is the first of a set: place 0, whose id is 0 where question 17 says yes, and each later place that starts one
abbrev pub is_first : (ℕ → Bool) → ℕ → Bool
is_first p zero = true
is_first p (suc k) = p (suc k)

-- the set that starts at `start`, of n bands: it ends before the next start, or with the last band
abbrev pub set_from : (ℕ → Bool) → ℕ → ℕ → DegenerateSet
set_from p n start = degenerate_set start (end_of p n start)

-- the sets of n bands that start below k, in order
abbrev pub sets_below : (ℕ → Bool) → ℕ → ℕ → List DegenerateSet
sets_below p n k = map (set_from p n) (places_below k (is_first p))

-- "An id equal to its own place starts a set": the sets of an id list of n bands
abbrev pub sets_of : ℕ → List ℤ → List DegenerateSet
sets_of n ids = sets_below (starts_at ids) n n

-- sets that follow one another from `from` up to below `to`: no gap, no overlap, none empty
abbrev pub Follow : ℕ → ℕ → List DegenerateSet → Type 0
Follow from to [] = from ≡ to
Follow from to (s ∷ sets) = (s.start ≡ from) × ((from < s.end) × Follow s.end to sets)

-- the product of two sets: the rows of the one, the columns of the other
abbrev pub product : DegenerateSet → DegenerateSet → Block
product s t = block s.start s.end t.start t.end

-- whether a block has more than one entry
abbrev pub is_larger : Block → Bool
is_larger b = ltb 1 (entries b)

-- the products of one set of each list: with each set of the first, one after another, every set of the second
unfoldable pub products : List DegenerateSet → List DegenerateSet → List Block
products [] columns = []
products (s ∷ rows) columns = map (product s) columns ++ products rows columns

-- the blocks of two id lists of n bands; those of one entry are among them
abbrev pub blocks_of : ℕ → List ℤ → List ℤ → List Block
blocks_of n ids1 ids2 = products (sets_of n ids1) (sets_of n ids2)
