-- `triplet_corners::kernel::fill_corner_numbers` meets its contract.
use Prim.Native.Nat.{◌/◌, ℕ}
use lib.ListN.{length}
use mathlib.Core.Path.{◌∙◌, ◌≡◌}
use native.Mathlib.Omega.{arith}
use Rattle.list_laws.proofs.FillLaws.{area-next, area-none}
use Rattle.triplet_corners.specs.Corners.{corner_numbers}
use Rattle.triplet_corners.proofs.kernel.fill_corner_numbers.Invariants.{entry}
use Rattle.triplet_corners.proofs.kernel.fill_corner_numbers.Goals.{Start}
use Rattle.triplet_corners.proofs.kernel.fill_corner_numbers.Goals as goal

-- the number at each place
abbrev number : Start → ℕ → ℕ
number s = entry s.args.grid.grid s.args.grid.addresses.now s.args.grid.gp_map.now s.args.steps.triples.numbers.now s.args.g

pub loop-j-init : goal.loop-j-init
loop-j-init c =
    area-none 384 (number (goal.at.loop-j-init c).Start) 0

pub loop-j-preserved : goal.loop-j-preserved
loop-j-preserved c =
    rw c.loop-j.invariant (area-next 384 (number (goal.at.loop-j-preserved c).Start) 0 c.loop-j.j _ (omega (arith, c.args.steps.few)) c.neighbour.ensures)

pub returns : goal.returns
unfolding corner_numbers
returns c =
    let e : c.loop-j.j ≡ length c.args.steps.triples.numbers.now / 3 = omega arith in
    c.loop-j.invariant ∙ rw e
