-- `listing_line::kernel::weight_at` meets its contract.
use Prim.Native.Nat.{ℕ, ◌+◌, ◌-◌}
use lib.Ieee.{div, of_bits}
use lib.ListN.{drop, take}
use mathlib.Core.Path.{◌∙◌, ◌≡◌, ap, sym}
use native.Mathlib.Omega.{arith}
use Rattle.text.specs.Fields.{bits}
use Rattle.listing_line.specs.Lines.{float_of, weight_here}
use Rattle.listing_line.proofs.LineLaws.{weight_is}
use Rattle.listing_line.proofs.kernel.weight_at.Goals.{After-parse_bits}
use Rattle.listing_line.proofs.kernel.weight_at.Goals as goal

-- what was read is the weight
read : (c : After-parse_bits) → float_of c.parse_bits.result ≡ weight_here c.args.reader.now.text.now c.args.reader.now.at
read c =
    let q : c.args.reader.now.at + 16 - c.args.reader.now.at ≡ 16 = omega arith in
    weight_is c.args.reader.now.text.now c.args.reader.now.at 0 c.parse_bits.result (c.parse_bits.ensures ∙ ap (λ (k : ℕ). bits (take k (drop c.args.reader.now.at c.args.reader.now.text.now))) q)

pub returns-in-Some : goal.returns-in-Some
returns-in-Some c =
    c.float_of.ensures ∙ (sym (ap float_of c.in-Some.is) ∙ read (goal.at.returns-in-Some c).After-parse_bits)

pub returns-in-None : goal.returns-in-None
unfolding of_bits div
returns-in-None c = sym (ap float_of c.in-None.is) ∙ read (goal.at.returns-in-None c).After-parse_bits
