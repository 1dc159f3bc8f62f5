-- `text::kernel::float_of` meets its contract.
use lib.Ieee.{div, of_bits}
use mathlib.Core.Path.{sym}
use native.Mathlib.Omega.{arith}
use Rattle.ieee_laws.proofs.PatternLaws.{nan-of-pattern, pattern-safe}
use Rattle.text.proofs.kernel.float_of.Goals as goal

pub returns-then-pattern-gt9218868437227405312 : goal.returns-then-pattern-gt9218868437227405312
unfolding of_bits div
returns-then-pattern-gt9218868437227405312 c =
    sym (nan-of-pattern c.args.pattern (omega arith))

pub float_from_bits-result : goal.float_from_bits-result
float_from_bits-result c =
    pattern-safe c.args.pattern (omega arith)
