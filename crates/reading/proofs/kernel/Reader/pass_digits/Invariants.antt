-- `reading::kernel::Reader::pass_digits` meets its contract: before each turn the digits behind are those of the text.
use Prim.Native.Nat.{◌+◌, ◌-◌}
use lib.ListN.{drop, take}
use mathlib.Core.List.{◌++◌}
use mathlib.Core.Path.{◌≡◌}
use Rattle.io.specs.Digits.{last_digits}
use Rattle.reading.proofs.kernel.Reader.pass_digits.Given as goal

abbrev pub invariant-loop-i : goal.invariant-loop-i
invariant-loop-i l = last_digits 10 l.k l.n ≡ last_digits 10 l.i l.m ++ take (l.k - l.i) (drop (l.at + l.i) l.self.text.now)
