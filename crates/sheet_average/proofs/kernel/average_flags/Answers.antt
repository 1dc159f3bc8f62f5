-- `sheet_average::kernel::average_flags` meets its contract.
use mathlib.Core.Path.{◌∙◌}
use Rattle.sheet_average.proofs.AverageLaws.{flags-by-rule}
use Rattle.sheet_average.proofs.kernel.average_flags.Goals as goal

pub returns : goal.returns
returns c = c.average_entries.ensures ∙ flags-by-rule c.args.by.counts.sizes c.args.by.triplet c.args.by.degenerate_ids1.now c.args.by.degenerate_ids2.now c.args.flags.now c.requires
