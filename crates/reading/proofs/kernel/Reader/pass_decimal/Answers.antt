-- `reading::kernel::Reader::pass_decimal` meets its contract.
use mathlib.Core.List.{[], ◌∷◌}
use Rattle.text.specs.Spelled.{decimal}
use Rattle.reading.proofs.ReaderLaws.{passes-both, passes-lost}
use Rattle.reading.proofs.kernel.Reader.pass_decimal.Goals as goal

pub returns-in_err-pass_digits : goal.returns-in_err-pass_digits
unfolding decimal
returns-in_err-pass_digits c =
    rw c.from_residual.ensures (passes-lost _ (c.args.end ∷ []) (rw (c.places_of.ensures, c.in_err-pass_digits.was) at c.pass_digits.ensures))

pub returns : goal.returns
unfolding decimal
returns c =
    passes-both _ (c.args.end ∷ []) (rw (c.places_of.ensures, c.in_ok-pass_digits.was) at c.pass_digits.ensures) c.pass_byte.ensures
