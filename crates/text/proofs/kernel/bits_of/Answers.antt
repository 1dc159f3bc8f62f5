-- `text::kernel::bits_of` meets its contract.
use lib.Ieee.{binary64, to_bits}
use mathlib.Core.Path.{ap, sym}
use Rattle.ieee_laws.proofs.PatternLaws.{unequal-is-nan}
use Rattle.text.proofs.kernel.bits_of.Goals as goal

pub returns : goal.returns
unfolding to_bits
returns c =
    sym (ap (to_bits binary64) (unequal-is-nan c.args.x c.if-x.false))
