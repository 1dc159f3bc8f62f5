-- `open_count::kernel::Channels::open_from` meets its contract.
use Prim.Native.Nat.{◌+◌}
use mathlib.Core.Path.{◌∙◌, ◌≡◌, refl}
use native.Mathlib.Numerals.{add-one}
use native.Mathlib.Omega.{arith}
use mathlib.Core.Bool.{Bool, false, true}
use Rattle.std.specs.Int.{from_bool}
use Rattle.list_laws.specs.Lists.{count_below, one_if}
use Rattle.list_laws.proofs.CountedLaws.{one-byte}
use Rattle.list_laws.proofs.MapLaws.{count_next}
use Rattle.open_count.specs.OpenCount.{is_open, open_from}
use Rattle.open_count.proofs.kernel.Channels.open_from.Goals as goal

pub loop-i-init : goal.loop-i-init
unfolding count_below
loop-i-init c = refl

pub overflow_add-count : goal.overflow_add-count
overflow_add-count c =
    omega (arith, (count_next c.loop-i.i c.loop-i.count (λ k. is_open c.args.self.now.channels c.args.self.now.cells c.args.self.now.weights.now (c.args.start + k)) c.loop-i.invariant c.from-count.result (c.from-count.ensures ∙ rw c.is_open.ensures (one-byte _))).0)

pub loop-i-preserved : goal.loop-i-preserved
loop-i-preserved c =
    rw add-one (count_next c.loop-i.i c.loop-i.count (λ k. is_open c.args.self.now.channels c.args.self.now.cells c.args.self.now.weights.now (c.args.start + k)) c.loop-i.invariant c.from-count.result (c.from-count.ensures ∙ rw c.is_open.ensures (one-byte _))).1

pub returns : goal.returns
unfolding open_from
returns c =
    let e : c.loop-i.i ≡ c.args.n = omega arith in c.loop-i.invariant ∙ rw e
