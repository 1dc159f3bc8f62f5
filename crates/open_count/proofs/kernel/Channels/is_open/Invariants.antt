-- `open_count::kernel::Channels::is_open` meets its contract: before each turn no weight was other than zero.
use mathlib.Core.Bool.{false}
use mathlib.Core.Path.{◌≡◌}
use Prim.Native.Nat.{◌+◌, ◌*◌}
use lib.Ieee.{nan}
use lib.ListN.{get_or}
use Rattle.list_laws.specs.Lists.{some_below}
use Rattle.open_count.specs.OpenCount.{is_nonzero}
use Rattle.open_count.proofs.kernel.Channels.is_open.Given as goal

abbrev pub invariant-loop-c : goal.invariant-loop-c
invariant-loop-c l = false ≡ some_below l.c (λ k. is_nonzero (get_or l.self.weights.now (k * l.self.cells + l.e) nan))
