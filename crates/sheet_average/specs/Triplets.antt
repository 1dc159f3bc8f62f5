-- What averaging one triplet makes of the entries of a sheet, by any rule of what becomes of an entry in its block.
use Rattle.std.specs.Prelude.{ℕ, ◌/◌, ◌%◌, List, ℤ, eqb, get_or}
use Rattle.list_laws.specs.Lists.{row_of}
use Rattle.list_laws.specs.Patch.{patch}
use Rattle.triplet_study.specs.declared.Sizes.{Sizes}
use Rattle.triplet_piece.specs.Layout.{triplet_at}
use Rattle.degenerate_sets.specs.Averages.{Rule, averaged_by}

-- the entries afterwards, each point and channel by itself
unfoldable pub triplet_by : {A : Type 0} → A → Rule A → Sizes → ℕ → List ℤ → List ℤ → List A → List A
triplet_by d rule z t ids1 ids2 l =
    patch (λ i. eqb (triplet_at z.points z.pairs (i % z.cells)) t)
    (λ i. get_or (averaged_by rule z.bands1 ids1 ids2 (row_of z.pairs (i / z.pairs) l)) (i % z.pairs) d) l
