-- `triplet_values::kernel::fill_channel` meets its contract.
use lib.Ieee.{nan}
use mathlib.Core.Path.{◌∙◌, sym}
use native.Mathlib.Omega.{arith}
use Rattle.list_laws.proofs.FillLaws.{tabulate-at}
use Rattle.triplet_values.specs.Values.{channel_values, number_of}
use Rattle.triplet_values.proofs.kernel.fill_channel.Invariants.{entry}
use Rattle.triplet_values.proofs.kernel.fill_channel.Goals as goal

pub returns : goal.returns
unfolding channel_values
returns c =
    record { size = c.loop-i.invariant.0; same = λ i h. c.loop-i.invariant.1 i (omega arith) ∙ sym (tabulate-at c.args.n.count (entry (number_of c.args.channel) c.args.f1.now c.args.f2.now) nan i h) }
