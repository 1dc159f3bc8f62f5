-- `replay_report::cases::one_more` meets its contract: the sum that stops at the largest number is the one by cases.
use Rattle.std.proofs.Common.{arith}
use Rattle.std.proofs.lemmas.Grind.{common_steps}
use Rattle.replay_report.specs.Report.{one_more}
use Rattle.replay_report.proofs.cases.one_more.Goals as goal

pub returns : goal.returns
unfolding one_more
returns c = grind (arith, common_steps, c.saturating_add.ensures, c.ranges.n.fits)
