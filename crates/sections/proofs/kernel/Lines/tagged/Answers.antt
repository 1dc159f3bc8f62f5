-- `sections::kernel::Lines::tagged` meets its contract.
use lib.ListN.{drop, length-drop, take}
use lib.Seq.{length-take-le}
use native.Mathlib.Omega.{arith}
use Prim.Native.Nat.{◌-◌}
use borrow.Author.Rules.{rules}
use Rattle.sections.proofs.LineLaws.{fields-bytes, tagged-end, tagged-is, tagged-other}
use Rattle.sections.proofs.kernel.Lines.tagged.Goals as goal

pub returns-then-text-self-clause-line : goal.returns-then-text-self-clause-line
returns-then-text-self-clause-line c = tagged-end c.args.tag.now c.args.self.now.text.now c.args.self.now.next (omega arith)

pub returns-then-ne-clause-line : goal.returns-then-ne-clause-line
returns-then-ne-clause-line c =
    tagged-other c.args.tag.now c.args.self.now.text.now c.args.self.now.next (omega arith) c.cut-end.result c.cut-end.ensures.0 c.cut-tag_end.result (omega (arith, c.cut-tag_end.ensures.0)) (search rules)

pub returns-clause-line : goal.returns-clause-line
returns-clause-line c =
    tagged-is c.args.tag.now c.args.self.now.text.now c.args.self.now.next (omega arith) c.cut-end.result c.cut-end.ensures.0 c.cut-tag_end.result (omega (arith, c.cut-tag_end.ensures.0)) (search rules)

pub returns-clause-bytes : goal.returns-clause-bytes
returns-clause-bytes c =
    omega (
      arith,
      c.cut-end.ensures.1,
      fields-bytes c.cut-tag_end.result (take (c.cut-end.result - c.args.self.now.next) (drop c.args.self.now.next c.args.self.now.text.now)),
      length-take-le (c.cut-end.result - c.args.self.now.next) (drop c.args.self.now.next c.args.self.now.text.now) (omega (arith, c.cut-end.ensures.2, length-drop c.args.self.now.next c.args.self.now.text.now)),
    )
