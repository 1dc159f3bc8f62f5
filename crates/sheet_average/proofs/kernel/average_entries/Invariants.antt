-- `sheet_average::kernel::average_entries` meets its contract.
use mathlib.Core.Path.{◌≡◌}
use Rattle.list_laws.proofs.GroupLaws.{some_groups}
use Rattle.degenerate_sets.specs.Averages.{averaged_by}
use Rattle.sheet_average.proofs.kernel.average_entries.Given as goal

abbrev pub invariant-loop-c : goal.invariant-loop-c
invariant-loop-c g l =
    l.entries ≡ some_groups l.fn.by.counts.sizes.points l.fn.by.counts.sizes.pairs (averaged_by g.E.Averaged.rule l.fn.by.counts.sizes.bands1 l.fn.by.degenerate_ids1.now l.fn.by.degenerate_ids2.now) g.E.Averaged.past_end l.fn.by.counts.sizes.triplets l.fn.by.triplet l.c l.initial.entries
