-- `averaging_walk::kernel::walk::average_rows` meets its contract: at each turn the blocks of the sets of columns before the walk's start, which
-- starts a set or is the end, have had theirs.
use mathlib.Core.Path.{◌≡◌}
use mathlib.Core.Bool.{true}
use mathlib.Core.List.{map}
use Prim.Native.Nat.{◌≤◌, ◌<◌}
use lib.ListN.{length}
use Rattle.degenerate_sets.specs.Sets.{starts_at}
use Rattle.degenerate_sets.specs.Blocks.{degenerate_set, is_first, sets_below, product}
use Rattle.degenerate_sets.specs.Turns.{in_turn}
use Rattle.averaging_walk.proofs.kernel.walk.average_rows.Given as goal

abbrev pub invariant-loop-columns : goal.invariant-loop-columns
invariant-loop-columns g l =
    let n = length l.ids2 in
    let left = l.columns-iterator.start in
    (l.columns-iterator.ids.now ≡ l.ids2)
    × (left ≤ n)
    × (left < n → is_first (starts_at l.ids2) left ≡ true)
    × (l.m ≡ in_turn n (g.E.Averaged.rule n) (map (product (degenerate_set l.rows.start l.rows.end)) (sets_below (starts_at l.ids2) n left)) l.initial.m)
