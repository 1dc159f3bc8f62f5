-- `reading::kernel::Reader::pass_digits` meets its contract: before each turn the digits behind are those of the text.
use Prim.Native.Nat.{◌+◌, ◌-◌}
use lib.ListN.{drop, take}
use mathlib.Core.Path.{◌≡◌, refl, sym}
use native.Mathlib.Omega.{arith}
use Rattle.io.specs.Digits.{last_digits}
use Rattle.text.proofs.RoundTrip.{length_digits}
use Rattle.reading.proofs.DigitLaws.{digit-other, digit-same}
use Rattle.reading.proofs.PassedLaws.{Stand, no-room}
use Rattle.reading.proofs.ReaderLaws.{passes-no, passes-yes}
use Rattle.reading.proofs.kernel.Reader.pass_digits.Goals as goal

pub returns-then-self-at : goal.returns-then-self-at
returns-then-self-at c = passes-no refl (no-room (last_digits 10 c.args.k c.args.n) c.args.self.now.at c.args.self.now.text.now (omega (arith, length_digits 10 c.args.k c.args.n)) (omega arith))

pub returns-then-self-at-2 : goal.returns-then-self-at-2
returns-then-self-at-2 c = passes-no refl (digit-other c.args.n c.args.k c.loop-i.m c.loop-i.i c.args.self.now.at c.args.self.now.text.now c.loop-i.invariant (omega arith) (omega arith) c.if-self-at-2.true)

pub loop-i-preserved : goal.loop-i-preserved
loop-i-preserved c =
    digit-same c.args.n c.args.k c.loop-i.m c.loop-i.i c.args.self.now.at c.args.self.now.text.now c.loop-i.invariant (omega arith) (omega arith) (omega arith) c.if-self-at-2.false

pub returns : goal.returns
returns c = let z : c.loop-i.i ≡ 0 = omega arith in
    let a : c.args.self.now.at + 0 ≡ c.args.self.now.at = omega arith in
    let b : c.args.k - 0 ≡ c.args.k = omega arith in
    let d : last_digits 10 c.args.k c.args.n ≡ take c.args.k (drop c.args.self.now.at c.args.self.now.text.now) = rw (z, a, b) at c.loop-i.invariant in
    let s : Stand (last_digits 10 c.args.k c.args.n) c.args.self.now.at c.args.self.now.text.now = rw (length_digits 10 c.args.k c.args.n) (sym d) in
    passes-yes refl s (omega (arith, length_digits 10 c.args.k c.args.n))
