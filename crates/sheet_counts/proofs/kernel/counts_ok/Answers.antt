-- `sheet_counts::kernel::counts_ok` meets its contract.
use borrow.Author.Rules.{rules}
use Rattle.list_laws.proofs.SignedLaws.{back}
use Rattle.sheet_counts.specs.SheetCounts.{are_sheet_counts}
use Rattle.sheet_counts.proofs.kernel.counts_ok.Goals as goal

pub returns : goal.returns
unfolding are_sheet_counts
returns c =
    cc (
      c.signed_counts_ok.ensures,
      back c.args.counts.num_band1 (search rules),
      back c.args.counts.num_band2 (search rules),
      back c.args.counts.num_band0 (search rules),
      back c.args.counts.num_triplets (search rules),
    )
