-- `sheet_tally::kernel::room_ok` meets its contract.
use native.Mathlib.Omega.{arith}
use Rattle.sheet_tally.proofs.TallyLaws.{no_room, room-is}
use Rattle.sheet_tally.proofs.kernel.room_ok.Goals as goal

pub returns-then-before-lt-FULL : goal.returns-then-before-lt-FULL
returns-then-before-lt-FULL c = room-is _ _ (omega (arith, c.if-before-lt-FULL.true))

pub returns : goal.returns
returns c = no_room _ _ (omega (arith, c.if-before-lt-FULL.false))
