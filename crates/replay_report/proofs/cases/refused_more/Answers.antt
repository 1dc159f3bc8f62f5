-- `replay_report::cases::refused_more` meets its contract: number 0 and numbers above 20 change nothing.
use borrow.Author.Tests.{lt-ltb, le-ltb}
use native.Mathlib.Omega.{arith}
use Rattle.replay_report.specs.Report.{refused_more}
use Rattle.replay_report.proofs.cases.refused_more.Goals as goal

pub returns-then-number-lt30 : goal.returns-then-number-lt30
unfolding refused_more
returns-then-number-lt30 c =
    rw c.one_more.ensures (simp (lt-ltb 0 c.args.number (omega arith), lt-ltb c.args.number 30 (omega arith)))

pub returns-else-number-lt30 : goal.returns-else-number-lt30
unfolding refused_more
returns-else-number-lt30 c = simp (lt-ltb 0 c.args.number (omega arith), le-ltb c.args.number 30 (omega arith))

pub returns-else-number-gt0 : goal.returns-else-number-gt0
unfolding refused_more
returns-else-number-gt0 c = simp (le-ltb 0 c.args.number (omega arith))
