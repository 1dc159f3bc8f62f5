-- Computed: the sets of the ids 0, 0, 2, 3, 3, and the blocks of 0, 1, 1 and 0, 0, 2. Assumes nothing.
use mathlib.Core.Path.{◌≡◌, refl}
use mathlib.Core.List.{[], ◌∷◌}
use lib.IntN.{pos}
use Rattle.list_laws.specs.Lists.{places_below}
use Rattle.list_laws.specs.Matrix.{block}
use Rattle.degenerate_sets.specs.Sets.{starts_at, end_of}
use Rattle.degenerate_sets.specs.Blocks.{degenerate_set, sets_of, products, blocks_of}

pub sets : sets_of 5 (pos 0 ∷ pos 0 ∷ pos 2 ∷ pos 3 ∷ pos 3 ∷ []) ≡ degenerate_set 0 2 ∷ degenerate_set 2 3 ∷ degenerate_set 3 5 ∷ []
unfolding places_below starts_at end_of
sets = refl

pub blocks : blocks_of 3 (pos 0 ∷ pos 1 ∷ pos 1 ∷ []) (pos 0 ∷ pos 0 ∷ pos 2 ∷ [])
    ≡ block 0 1 0 2 ∷ block 0 1 2 3 ∷ block 1 3 0 2 ∷ block 1 3 2 3 ∷ []
unfolding places_below starts_at end_of products
blocks = refl
