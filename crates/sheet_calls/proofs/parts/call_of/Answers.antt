-- `sheet_calls::parts::call_of` meets its contract.
use lib.IntN.{ℤ}
use mathlib.Core.Path.{◌∙◌, ◌≡◌, ap, sym}
use mir.Syntax.{w64}
use mir.Facts.{to_z-of_z}
use borrow.Author.Rules.{rules}
use Rattle.list_laws.specs.Lists.{at}
use Rattle.list_laws.specs.Signed.{is_nat}
use Rattle.sheet_calls.proofs.CallLaws.{call-average, call-carry, call-run}
use Rattle.sheet_calls.proofs.parts.call_of.Goals.{After-is_nat, After-is_nat-2}
use Rattle.sheet_calls.proofs.parts.call_of.Goals as goal

-- the kind is 0
run : (c : After-is_nat) → is_nat (at c.args.numbers.now 0) 0 ≡ c.is_nat.result
run c = sym (c.is_nat.ensures ∙ ap (λ (k : ℤ). is_nat k 0) (to_z-of_z {w = w64} {z = at c.args.numbers.now 0} (search rules)))

-- it is 1
carry : (c : After-is_nat-2) → is_nat (at c.args.numbers.now 0) 1 ≡ c.is_nat-2.result
carry c = sym (c.is_nat-2.ensures ∙ ap (λ (k : ℤ). is_nat k 1) (to_z-of_z {w = w64} {z = at c.args.numbers.now 0} (search rules)))

pub returns-then-is_nat : goal.returns-then-is_nat
returns-then-is_nat c =
    let n = c.args.numbers.now in
    rw (to_z-of_z {w = w64} {z = at n 1} (search rules), to_z-of_z {w = w64} {z = at n 2} (search rules), to_z-of_z {w = w64} {z = at n 3} (search rules), to_z-of_z {w = w64} {z = at n 4} (search rules)) (call-run c.args.ids.now (at n 0) (at n 1) (at n 2) (at n 3) (at n 4) (at n 5) (run (goal.at.returns-then-is_nat c).After-is_nat ∙ c.if-is_nat.true))

pub returns-then-is_nat-2 : goal.returns-then-is_nat-2
returns-then-is_nat-2 c =
    let n = c.args.numbers.now in
    rw (to_z-of_z {w = w64} {z = at n 1} (search rules)) (call-carry c.args.ids.now (at n 0) (at n 1) (at n 2) (at n 3) (at n 4) (at n 5) (run (goal.at.returns-then-is_nat-2 c).After-is_nat ∙ c.if-is_nat.false) (carry (goal.at.returns-then-is_nat-2 c).After-is_nat-2 ∙ c.if-is_nat-2.true))

pub returns : goal.returns
returns c =
    let n = c.args.numbers.now in
    let first = rw (to_z-of_z {w = w64} {z = at n 2} (search rules), to_z-of_z {w = w64} {z = at n 3} (search rules)) at c.ids_from.ensures in
    let second = rw (to_z-of_z {w = w64} {z = at n 4} (search rules), to_z-of_z {w = w64} {z = at n 5} (search rules)) at c.ids_from-2.ensures in
    rw (to_z-of_z {w = w64} {z = at n 1} (search rules), first, second) (call-average c.args.ids.now (at n 0) (at n 1) (at n 2) (at n 3) (at n 4) (at n 5) (run (goal.at.returns c).After-is_nat ∙ c.if-is_nat.false) (carry (goal.at.returns c).After-is_nat-2 ∙ c.if-is_nat-2.false))
