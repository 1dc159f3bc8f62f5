-- `listing_line::kernel::pass_weight` meets its contract.
use Prim.Native.Nat.{ℕ, ◌+◌, ◌-◌}
use borrow.Author.Tests.{eqb-true}
use lib.Ieee.{binary64, of_bits, to_bits}
use lib.ListN.{drop, take}
use mathlib.Core.List.{[], ◌∷◌}
use mathlib.Core.Path.{◌∙◌, ◌≡◌, ap, refl, sym}
use native.Mathlib.Omega.{arith}
use Rattle.list_laws.proofs.BoolLaws.{no_of, yes_of}
use Rattle.text.specs.Fields.{bits}
use Rattle.text.proofs.SpelledLaws.{length-hexadecimal}
use Rattle.reading.proofs.PassedLaws.{no-room}
use Rattle.reading.proofs.ReaderLaws.{passes-as, passes-both, passes-no, passes-yes}
use Rattle.listing_line.specs.Lines.{weight_here}
use Rattle.listing_line.proofs.LineLaws.{pattern-stands, weight-bad, weight-length, weight-printed, weight-unprinted}
use Rattle.listing_line.proofs.kernel.pass_weight.Goals.{After-parse_bits}
use Rattle.listing_line.proofs.kernel.pass_weight.Goals as goal

-- what was read are the sixteen digits
read : (c : After-parse_bits) → c.parse_bits.result ≡ bits (take 16 (drop c.args.reader.now.at c.args.reader.now.text.now))
read c =
    let q : c.args.reader.now.at + 16 - c.args.reader.now.at ≡ 16 = omega arith in
    c.parse_bits.ensures ∙ ap (λ (k : ℕ). bits (take k (drop c.args.reader.now.at c.args.reader.now.text.now))) q

pub returns-then-reader-lt16 : goal.returns-then-reader-lt16
returns-then-reader-lt16 c =
    passes-no refl (no-room _ c.args.reader.now.at c.args.reader.now.text.now (omega (arith, weight-length (weight_here c.args.reader.now.text.now c.args.reader.now.at) c.args.end)) c.args.reader.now.within)

pub returns-in_err-pattern : goal.returns-in_err-pattern
returns-in_err-pattern c =
    rw c.from_residual.ensures
    (passes-no refl (weight-bad c.args.reader.now.text.now c.args.reader.now.at c.args.end c.parse_bits.result (read (goal.at.returns-in_err-pattern c).After-parse_bits) c.in_err-pattern.was))

pub returns-then-not-is_printed : goal.returns-then-not-is_printed
returns-then-not-is_printed c =
    passes-no refl
    (weight-unprinted c.args.reader.now.text.now c.args.reader.now.at c.args.end c.parse_bits.result (read (goal.at.returns-then-not-is_printed c).After-parse_bits) c.in_ok-pattern.pattern c.in_ok-pattern.was
    (sym (no_of c.is_printed.ensures c.if-not-is_printed.true)))

pub returns : goal.returns
returns c =
    let m = read (goal.at.returns c).After-parse_bits in
    let p = eqb-true (to_bits binary64 (of_bits binary64 c.in_ok-pattern.pattern)) c.in_ok-pattern.pattern (yes_of c.is_printed.ensures c.if-not-is_printed.false) in
    passes-as (weight-printed c.args.reader.now.text.now c.args.reader.now.at c.args.end c.parse_bits.result m c.in_ok-pattern.pattern c.in_ok-pattern.was p)
    (passes-both _ (c.args.end ∷ [])
    (passes-yes c.skip.ensures.text (pattern-stands c.args.reader.now.text.now c.args.reader.now.at c.args.end c.parse_bits.result m c.in_ok-pattern.pattern c.in_ok-pattern.was) (omega (arith, c.skip.ensures.at, length-hexadecimal c.in_ok-pattern.pattern)))
    c.pass_byte.ensures)
