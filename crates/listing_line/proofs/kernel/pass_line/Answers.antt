-- `listing_line::kernel::pass_line` meets its contract.
use Rattle.reading.proofs.ReaderLaws.{passes-lost}
use Rattle.listing_line.specs.Lines.{line_here}
use Rattle.listing_line.proofs.LineLaws.{line-passes, no-flag}
use Rattle.listing_line.proofs.kernel.pass_line.Goals as goal

pub returns-in_err-pass_numbers : goal.returns-in_err-pass_numbers
unfolding line_here
returns-in_err-pass_numbers c =
    rw c.from_residual.ensures (passes-lost _ _ (passes-lost _ _ (rw c.in_err-pass_numbers.was at c.pass_numbers.ensures)))

pub returns-in_err-pass_flag : goal.returns-in_err-pass_flag
returns-in_err-pass_flag c =
    rw c.from_residual-in_err-pass_flag.ensures
    (no-flag c.args.place c.args.channels (rw c.in_ok-pass_numbers.was at c.pass_numbers.ensures) (rw c.in_err-pass_flag.was at c.pass_flag.ensures))

pub returns : goal.returns
returns c =
    line-passes c.args.place c.args.channels (rw c.in_ok-pass_numbers.was at c.pass_numbers.ensures) (rw c.in_ok-pass_flag.was at c.pass_flag.ensures) c.pass_weights.ensures
