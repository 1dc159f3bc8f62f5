-- `bzgrid::kernel::fill_neighbours` meets its contract.
use lib.IntN.{pos}
use lib.ListN.{length, take}
use mathlib.Core.Path.{◌≡◌}
use Rattle.bzgrid_lookup.specs.Neighbours.{neighbour_of, wanted_address}
use Rattle.list_laws.specs.Lists.{tabulate}
use Rattle.bzgrid.proofs.kernel.fill_neighbours.Given as goal

abbrev pub invariant-loop-j : goal.invariant-loop-j
invariant-loop-j l =
    (length l.out ≡ length l.initial.out) × (take l.j l.out ≡ tabulate l.j (λ k. pos (neighbour_of l.grid.grid l.grid.addresses.now l.grid.gp_map.now (wanted_address l.grid.addresses.now l.steps.numbers.now l.g k))))
