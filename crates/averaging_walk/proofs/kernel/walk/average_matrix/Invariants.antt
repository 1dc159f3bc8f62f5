-- `averaging_walk::kernel::walk::average_matrix` meets its contract: at each turn the blocks of the sets of rows before the walk's start, which
-- starts a set or is the end, have had theirs.
use mathlib.Core.Path.{◌≡◌}
use mathlib.Core.Bool.{true}
use Prim.Native.Nat.{◌≤◌, ◌<◌}
use lib.ListN.{length}
use Rattle.degenerate_sets.specs.Sets.{starts_at}
use Rattle.degenerate_sets.specs.Blocks.{is_first, sets_below, sets_of, products}
use Rattle.degenerate_sets.specs.Turns.{in_turn}
use Rattle.averaging_walk.proofs.kernel.walk.average_matrix.Given as goal

abbrev pub invariant-loop-rows : goal.invariant-loop-rows
invariant-loop-rows g l =
    let n = length l.ids1 in
    let top = l.rows-iterator.start in
    (l.rows-iterator.ids.now ≡ l.ids1)
    × (top ≤ n)
    × (top < n → is_first (starts_at l.ids1) top ≡ true)
    × (l.m ≡ in_turn n (g.E.Averaged.rule n) (products (sets_below (starts_at l.ids1) n top) (sets_of n l.ids2)) l.initial.m)
