-- `listing_line::kernel::pass_numbers` meets its contract.
use Rattle.reading.proofs.ReaderLaws.{passes-both, passes-lost}
use Rattle.listing_line.specs.Lines.{numbers_of}
use Rattle.listing_line.proofs.kernel.pass_numbers.Goals as goal

pub returns-in_err-pass_decimal : goal.returns-in_err-pass_decimal
unfolding numbers_of
returns-in_err-pass_decimal c =
    rw c.from_residual.ensures (passes-lost _ _ (passes-lost _ _ (passes-lost _ _ (rw c.in_err-pass_decimal.was at c.pass_decimal.ensures))))

pub returns-in_err-pass_decimal-2 : goal.returns-in_err-pass_decimal-2
unfolding numbers_of
returns-in_err-pass_decimal-2 c =
    rw c.from_residual-in_err-pass_decimal-2.ensures
    (passes-lost _ _ (passes-lost _ _ (passes-both _ _ (rw c.in_ok-pass_decimal.was at c.pass_decimal.ensures) (rw c.in_err-pass_decimal-2.was at c.pass_decimal-2.ensures))))

pub returns-in_err-pass_decimal-3 : goal.returns-in_err-pass_decimal-3
unfolding numbers_of
returns-in_err-pass_decimal-3 c =
    rw c.from_residual-in_err-pass_decimal-3.ensures
    (passes-lost _ _
    (passes-both _ _ (passes-both _ _ (rw c.in_ok-pass_decimal.was at c.pass_decimal.ensures) (rw c.in_ok-pass_decimal-2.was at c.pass_decimal-2.ensures))
    (rw c.in_err-pass_decimal-3.was at c.pass_decimal-3.ensures)))

pub returns : goal.returns
unfolding numbers_of
returns c =
    passes-both _ _
    (passes-both _ _ (passes-both _ _ (rw c.in_ok-pass_decimal.was at c.pass_decimal.ensures) (rw c.in_ok-pass_decimal-2.was at c.pass_decimal-2.ensures))
    (rw c.in_ok-pass_decimal-3.was at c.pass_decimal-3.ensures)) c.pass_decimal-4.ensures
