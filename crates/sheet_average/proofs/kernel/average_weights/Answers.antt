-- `sheet_average::kernel::average_weights` meets its contract.
use mathlib.Core.Path.{◌∙◌}
use Rattle.sheet_average.proofs.AverageLaws.{weights-by-rule}
use Rattle.sheet_average.proofs.kernel.average_weights.Goals as goal

pub returns : goal.returns
returns c = c.average_entries.ensures ∙ weights-by-rule c.args.by.counts.sizes c.args.by.triplet c.args.by.degenerate_ids1.now c.args.by.degenerate_ids2.now c.args.weights.now
