-- `sheet_run::run_tested` meets its contract.
use mir.Syntax.{w64}
use mir.ValLaws.{to_z-of_z}
use Rattle.sheet_run.proofs.run_tested.Goals as goal

pub run_accepted-requires-clause-common : goal.run_accepted-requires-clause-common
run_accepted-requires-clause-common c = rw (c.new-work.ensures, c.new-prepared.ensures) c.requires.common

pub run_accepted-requires-clause-own : goal.run_accepted-requires-clause-own
run_accepted-requires-clause-own c = rw (to_z-of_z w64 c.args.worker c.ranges.worker, c.new-work.ensures, c.new-prepared.ensures) c.requires.own
