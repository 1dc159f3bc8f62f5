-- `open_count::kernel::Channels::open_from` meets its contract.
use Prim.Native.Nat.{◌+◌}
use mathlib.Core.Path.{◌≡◌}
use Rattle.list_laws.specs.Lists.{count_below}
use Rattle.open_count.specs.OpenCount.{is_open}
use Rattle.open_count.proofs.kernel.Channels.open_from.Given as goal

abbrev pub invariant-loop-i : goal.invariant-loop-i
invariant-loop-i l = l.count ≡ count_below l.i (λ k. is_open l.self.channels l.self.cells l.self.weights.now (l.start + k))
