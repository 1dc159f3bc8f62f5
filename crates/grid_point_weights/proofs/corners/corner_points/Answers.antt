-- `grid_point_weights::corners::corner_points` meets its contract.
use Prim.Native.Nat.{ℕ, ◌/◌, ◌<◌}
use lib.ListN.{length}
use lib.Signed.{mag}
use mathlib.Core.Bool.{true}
use mathlib.Core.Path.{◌≡◌, ◌∙◌, ap}
use native.Mathlib.Omega.{arith}
use Rattle.bzgrid_lookup.proofs.NeighbourLaws.{neighbour-lt}
use Rattle.bzgrid_lookup.specs.Neighbours.{wanted_address}
use Rattle.grid_point_weights.specs.Calls.{tested_study}
use Rattle.grid_point_weights.specs.Weights.{GridStudy, corner_of}
use Rattle.list_laws.proofs.FillLaws.{area-next, area-none}
use Rattle.list_laws.specs.Lists.{at}
use Rattle.question_grids.proofs.TableLaws.{corners-whole, rows-most}
use Rattle.question_grids.specs.Tables.{is_table}
use Rattle.grid_point_weights.proofs.corners.corner_points.Goals.{Start}
use Rattle.grid_point_weights.proofs.corners.corner_points.Goals as goal

-- the irreducible point of corner j
abbrev corner : Start → ℕ → ℕ
corner s j =
    let t = tested_study s.args.study.now in corner_of t.grid t.addresses t.gp-map t.table t.irreducible s.args.gp j

pub loop-j-init : goal.loop-j-init
loop-j-init c =
    (omega arith, area-none 384 (corner (goal.at.loop-j-init c).Start) 0)

pub neighbour-v-requires : goal.neighbour-v-requires
neighbour-v-requires c =
    rw c.grid-grid.ensures.1.0 (c.requires, c.loop-j-test.true)

pub bounds-corners-j : goal.bounds-corners-j
bounds-corners-j c =
    let table = c.steps-steps.result.numbers.now in
    let e : is_table table ≡ true = rw c.steps-steps.ensures c.args.study.now.sound.tabled in
    omega (arith, corners-whole table e, rows-most table e)

pub magnitude_at-requires : goal.magnitude_at-requires
magnitude_at-requires c =
    let t : GridStudy = tested_study c.args.study.now in
    let e : _ = rw (c.grid-grid.ensures.0, c.grid-grid.ensures.1.0, c.grid-grid.ensures.1.1, c.steps-steps.ensures) at c.neighbour-v.ensures in
    omega (arith, e, neighbour-lt t.grid t.addresses t.gp-map c.args.study.now.sound.sound-grid (wanted_address t.addresses t.table c.args.gp c.loop-j.j), c.args.study.now.sound.mapped)

pub loop-j-preserved : goal.loop-j-preserved
loop-j-preserved c =
    let table = c.steps-steps.result.numbers.now in
    let tabled : is_table table ≡ true = rw c.steps-steps.ensures c.args.study.now.sound.tabled in
    let few : c.loop-j.j < 384 = omega (arith, corners-whole table tabled, rows-most table tabled) in
    let e : _ = rw (c.grid-grid.ensures.0, c.grid-grid.ensures.1.0, c.grid-grid.ensures.1.1, c.steps-steps.ensures) at c.neighbour-v.ensures in
    (omega arith, rw c.loop-j.invariant.1 (area-next 384 (corner (goal.at.loop-j-preserved c).Start) 0 c.loop-j.j _ few (c.magnitude_at.ensures ∙ ap (λ (k : ℕ). mag (at c.args.study.now.lent.gp2irgp_map.now k)) e)))

pub returns : goal.returns
returns c =
    let e : c.loop-j.j ≡ length c.steps-steps.result.numbers.now / 3 = omega arith in
    c.loop-j.invariant.1 ∙ rw (e, c.steps-steps.ensures)
