-- `sheet_tally::kernel::with_runs` meets its contract.
use lib.ListN.{get_or}
use lib.Signed.{mag}
use mathlib.Core.Path.{◌≡◌}
use native.Mathlib.Omega.{arith}
use Prim.Native.Nat.{◌+◌, ◌<◌, ◌^◌}
use Rattle.list_laws.proofs.SignedLaws.{mag-given}
use Rattle.sheet_tally.proofs.TallyLaws.{tally-yes}
use Rattle.sheet_tally.proofs.kernel.with_runs.Goals.{After-magnitude-w}
use Rattle.sheet_tally.proofs.kernel.with_runs.Goals as goal

-- the worker's place, which lies among the sixteen, and the room of its count
place : (c : After-magnitude-w) → c.magnitude-w.result ≡ mag c.args.worker
place c =
    mag-given c.args.worker c.ranges.worker c.magnitude-w.ensures

room : (c : After-magnitude-w) → (c.magnitude-w.result < 16) × (get_or c.args.tally.runs c.magnitude-w.result 0 + c.args.runs < 2 ^ 63)
room c =
    rw (place c) (tally-yes c.args.tally.runs c.args.worker c.args.runs c.requires)

pub offset_bounds-counts-w : goal.offset_bounds-counts-w
offset_bounds-counts-w c = omega (arith, (room (goal.at.offset_bounds-counts-w c).After-magnitude-w).0)

pub bounds-counts-w : goal.bounds-counts-w
bounds-counts-w c = (room (goal.at.bounds-counts-w c).After-magnitude-w).0

pub overflow_add-counts : goal.overflow_add-counts
overflow_add-counts c = omega (arith, (room (goal.at.overflow_add-counts c).After-magnitude-w).1)

pub offset_bounds-counts-w-2 : goal.offset_bounds-counts-w-2
offset_bounds-counts-w-2 c = omega (arith, (room (goal.at.offset_bounds-counts-w-2 c).After-magnitude-w).0)

pub bounds-counts-w-2 : goal.bounds-counts-w-2
bounds-counts-w-2 c = (room (goal.at.bounds-counts-w-2 c).After-magnitude-w).0
