-- `replay_input::kernel::stamps::stamp_at` meets its contract.
use Prim.Native.Nat.{◌%◌, ◌+◌}
use mir.Facts.{to_z_pos}
use mir.Syntax.{w64}
use native.Mathlib.Omega.{arith}
use Rattle.replay_input.specs.Stamps.{stamp_at}
use Rattle.replay_input.proofs.kernel.stamps.stamp_at.Goals as goal

pub returns : goal.returns
unfolding stamp_at
returns c =
    to_z_pos w64 {n = 5000000 + c.args.place % 1000} (omega arith)
