-- `listing::kernel::put_lines` meets its contract.
use Rattle.list_laws.specs.Lists.{rows}
use Rattle.listing.specs.Sheets.{line_in}
use Rattle.writing.specs.Written.{Wrote}
use Rattle.listing.proofs.kernel.put_lines.Given as goal

abbrev pub invariant-loop-e : goal.invariant-loop-e
invariant-loop-e l = Wrote (rows l.e (line_in l.sheet)) l.initial.writer l.writer
