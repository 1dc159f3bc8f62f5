-- `open_count::kernel::Channels::is_open` meets its contract: before each turn no weight was other than zero.
use mathlib.Core.Bool.{Bool}
use mathlib.Core.Path.{ap, sym, ◌∙◌}
use mathlib.Core.List.{List}
use Prim.Native.Nat.{ℕ, ◌+◌, ◌*◌}
use native.Mathlib.Omega.{arith}
use lib.Ieee.{Float, nan}
use lib.ListN.{get_or}
use Rattle.list_laws.specs.Lists.{some_below}
use Rattle.list_laws.proofs.BelowLaws.{some_at, some_next, some-none}
use Rattle.open_count.specs.OpenCount.{is_nonzero, is_open}
use Rattle.open_count.proofs.kernel.Channels.is_open.Goals as goal

-- the entry's weight in each channel, whether it is other than zero
abbrev counts : List Float → ℕ → ℕ → ℕ → Bool
counts weights cells e k = is_nonzero (get_or weights (k * cells + e) nan)

pub loop-c-init : goal.loop-c-init
loop-c-init c = some-none _

pub returns-then-is_nonzero : goal.returns-then-is_nonzero
unfolding is_open
returns-then-is_nonzero c =
    some_at c.args.self.now.channels (counts c.args.self.now.weights.now c.args.self.now.cells c.args.e) c.loop-c.c (omega arith) (sym c.is_nonzero.ensures ∙ c.if-is_nonzero.true)

pub loop-c-preserved : goal.loop-c-preserved
loop-c-preserved c =
    some_next c.loop-c.c (counts c.args.self.now.weights.now c.args.self.now.cells c.args.e) c.loop-c.invariant (sym c.is_nonzero.ensures ∙ c.if-is_nonzero.false)

pub returns : goal.returns
unfolding is_open
returns c =
    c.loop-c.invariant ∙ ap (λ (n : ℕ). some_below n (counts c.args.self.now.weights.now c.args.self.now.cells c.args.e)) (omega arith)
