-- `answer::held::put_held` meets its contract.
use mathlib.Core.Path.{ap}
use native.Mathlib.Omega.{arith}
use lib.ListN.{length}
use Rattle.answer.proofs.HeldLaws.{length-floats}
use Rattle.answer.proofs.held.put_held.Goals.{After-fill_floats-3}
use Rattle.answer.proofs.held.put_held.Goals as goal

pub put_answer-requires : goal.put_answer-requires
put_answer-requires c =
    (omega (arith, ap length c.fill_floats-3.ensures, length-floats c.args.held.floats.points.now, c.requires.3), c.requires.4)
