-- `study_head::kernel::head_of` meets its contract.
use borrow.Author.Rules.{rules}
use Rattle.list_laws.proofs.SignedLaws.{back}
use Rattle.list_laws.specs.Lists.{at}
use Rattle.study_head.specs.Heads.{head_from}
use Rattle.study_head.proofs.kernel.head_of.Goals as goal

pub returns : goal.returns
unfolding head_from
returns c =
    rw (
      back (at c.args.grid.now 0) (search rules),
      back (at c.args.grid.now 1) (search rules),
      back (at c.args.grid.now 2) (search rules),
      back (at c.args.grid.now 3) (search rules),
      back (at c.args.diag.now 0) (search rules),
      back (at c.args.tp_type.now 0) (search rules),
      back (at c.args.bands.now 0) (search rules),
      back (at c.args.bands.now 1) (search rules),
    )
