-- `triplet_values::kernel::fill_frequencies` meets its contract.
use lib.Ieee.{nan}
use mathlib.Core.Path.{◌∙◌, sym}
use native.Mathlib.Omega.{arith}
use Rattle.list_laws.proofs.FillLaws.{tabulate-at}
use Rattle.triplet_values.specs.Values.{corner_frequencies}
use Rattle.triplet_values.proofs.kernel.fill_frequencies.Invariants.{entry}
use Rattle.triplet_values.proofs.kernel.fill_frequencies.Goals as goal

pub returns : goal.returns
unfolding corner_frequencies
returns c =
    record { size = c.loop-i.invariant.0; same = λ i h. c.loop-i.invariant.1 i (omega arith) ∙ sym (tabulate-at c.args.n.count (entry c.args.tp c.args.numbers.now c.args.band.frequencies.now c.args.band.bands c.args.band.band) nan i h) }
