-- `grid_point_weights::fill::fill_all` meets its contract.
use Prim.Native.Nat.{◌*◌, ◌+◌, ◌≤◌, ℕ}
use lib.Ieee.{Float}
use lib.ListN.{length}
use lib.Signed.{mag}
use mathlib.Core.List.{List}
use mathlib.Core.Path.{◌∙◌, ◌≡◌, ap, refl, sym}
use native.Mathlib.Nat.{zero-mul}
use native.Mathlib.Omega.{arith}
use Rattle.grid_point_weights.specs.Calls.{tested_study}
use Rattle.grid_point_weights.specs.Weights.{weights_of, weights_of_all}
use Rattle.list_laws.proofs.FillLaws.{part_length, rows_end, rows_row, rows_none}
use Rattle.list_laws.proofs.ProductLaws.{row_room}
use Rattle.list_laws.specs.Lists.{at}
use Rattle.question_grids.proofs.StepLaws.{grid-points-at}
use Rattle.question_grids.specs.Grids.{triples_in}
use Rattle.grid_point_weights.proofs.fill.fill_all.Goals.{In-loop-i, Start}
use Rattle.grid_point_weights.proofs.fill.fill_all.Goals as goal

-- the weights of the grid point at place i
abbrev filled : Start → ℕ → List Float
filled s i = weights_of (tested_study s.args.study.now) (mag (at s.args.grid_points.now i))

-- how many one grid point has
abbrev size_of : Start → ℕ
size_of s = length s.args.study.now.lent.frequency_points.now * s.args.study.now.bands

-- the part of this grid point lies within the buffer
room : (c : In-loop-i) → c.loop-i.i * (length c.args.study.now.lent.frequency_points.now * c.args.study.now.bands) + (length c.args.study.now.lent.frequency_points.now * c.args.study.now.bands) ≤ length c.loop-i.iw
room c =
    row_room c.loop-i.i (length c.args.grid_points.now) (length c.args.study.now.lent.frequency_points.now * c.args.study.now.bands) _ (length c.loop-i.iw) c.loop-i-test.true refl (c.loop-i.invariant.1 ∙ c.requires.1)

pub loop-i-init : goal.loop-i-init
loop-i-init c = (omega arith, refl, rw (zero-mul (size_of (goal.at.loop-i-init c).Start)) (rows_none (filled (goal.at.loop-i-init c).Start) c.args.iw.now))

pub fill_point-requires : goal.fill_point-requires
fill_point-requires c =
    let on-grid = grid-points-at (triples_in c.args.study.now.lent.grid.addresses.now) c.args.grid_points.now c.requires.0 c.loop-i.i c.loop-i-test.true in
    (rw c.magnitude_at-gp.ensures on-grid, part_length c.loop-i.iw (c.loop-i.i * size_of (goal.at.fill_point-requires c).Start) (size_of (goal.at.fill_point-requires c).Start) (room (goal.at.fill_point-requires c).In-loop-i))

pub loop-i-preserved : goal.loop-i-preserved
loop-i-preserved c =
    let size = size_of (goal.at.loop-i-preserved c).Start in
    let row : _ = rows_row (filled (goal.at.loop-i-preserved c).Start) c.loop-i.iw c.fill_point.new.iw c.loop-i.i size (room (goal.at.loop-i-preserved c).In-loop-i) c.fill_point.auto.iw c.loop-i.invariant.2 (rw c.magnitude_at-gp.ensures at c.fill_point.ensures) in
    (omega arith, row.0 ∙ c.loop-i.invariant.1, row.1)

pub returns : goal.returns
unfolding weights_of_all
returns c =
    let all = length c.args.grid_points.now in
    let e : c.loop-i.i ≡ all = omega arith in
    rows_end (filled (goal.at.returns c).Start) c.loop-i.iw (c.loop-i.i * size_of (goal.at.returns c).Start) c.loop-i.i all c.loop-i.invariant.2 (c.loop-i.invariant.1 ∙ c.requires.1 ∙ ap (λ (n : ℕ). n * size_of (goal.at.returns c).Start) (sym e)) e
