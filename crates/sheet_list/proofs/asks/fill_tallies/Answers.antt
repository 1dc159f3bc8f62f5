-- `sheet_list::asks::fill_tallies` meets its contract.
use lib.ListN.{length}
use mathlib.Core.Path.{◌∙◌, refl}
use native.Mathlib.Omega.{arith}
use Prim.Native.Nat.{◌+◌, ◌*◌, ◌≤◌}
use Rattle.list_laws.proofs.FillLaws.{rows_none, rows_row}
use Rattle.sheet_tally.specs.Tallies.{sixteen_of}
use Rattle.sheet_list.proofs.asks.fill_tallies.Goals.{In-loop-i}
use Rattle.sheet_list.proofs.asks.fill_tallies.Goals as goal

-- the room for a call's sixteen counts
room : (t : In-loop-i) → t.loop-i.i * 16 + 16 ≤ length t.loop-i.tallies
room t = omega (arith, t.loop-i-test.true, t.loop-i.invariant.1, t.requires)

pub loop-i-init : goal.loop-i-init
loop-i-init c = (omega arith, refl, rows_none (λ k. sixteen_of c.args.tally.runs) c.args.tallies.now)

pub loop-i-preserved : goal.loop-i-preserved
loop-i-preserved c =
    let row = rows_row (λ k. sixteen_of c.args.tally.runs) c.loop-i.tallies c.store_counts.new.row c.loop-i.i 16 (room (goal.at.loop-i-preserved c).In-loop-i) c.store_counts.auto.row c.loop-i.invariant.2 c.store_counts.ensures in
    (omega arith, row.0 ∙ c.loop-i.invariant.1, row.1)
