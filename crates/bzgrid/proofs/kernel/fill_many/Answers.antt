-- `bzgrid::kernel::fill_many` meets its contract.
use Prim.Native.Nat.{◌*◌, ◌+◌, ◌≤◌, ℕ}
use lib.IntN.{ℤ}
use lib.ListN.{length}
use lib.Signed.{mag}
use mathlib.Core.List.{List}
use mathlib.Core.Path.{◌∙◌, ◌≡◌, ap, refl, sym}
use native.Mathlib.Nat.{zero-mul}
use native.Mathlib.Omega.{arith}
use Rattle.bzgrid.specs.Lists.{neighbours_of_all, neighbours_of}
use Rattle.list_laws.proofs.FillLaws.{part_length, rows_end, rows_row, rows_none}
use Rattle.list_laws.proofs.ProductLaws.{row_room}
use Rattle.list_laws.specs.Lists.{at}
use Rattle.question_grids.proofs.StepLaws.{grid-points-at}
use Rattle.question_grids.specs.Grids.{triples_in}
use Rattle.bzgrid.proofs.kernel.fill_many.Goals.{In-loop-i, Start}
use Rattle.bzgrid.proofs.kernel.fill_many.Goals as goal

-- the neighbours of the point at place i
abbrev filled : Start → ℕ → List ℤ
filled s i = neighbours_of s.args.grid.grid s.args.grid.addresses.now s.args.grid.gp_map.now s.args.steps.numbers.now (mag (at s.args.grid_points.now i))

-- the part of this point lies within the buffer
room : (c : In-loop-i) → c.loop-i.i * triples_in c.args.steps.numbers.now + triples_in c.args.steps.numbers.now ≤ length c.loop-i.out
room c =
    row_room c.loop-i.i (length c.args.grid_points.now) (triples_in c.args.steps.numbers.now) _ (length c.loop-i.out) c.loop-i-test.true refl (c.loop-i.invariant.1 ∙ c.requires.1)

pub loop-i-init : goal.loop-i-init
loop-i-init c = (omega arith, refl, rw (zero-mul (triples_in c.args.steps.numbers.now)) (rows_none (filled (goal.at.loop-i-init c).Start) c.args.out.now))

pub fill_neighbours-requires : goal.fill_neighbours-requires
fill_neighbours-requires c =
    let size = triples_in c.args.steps.numbers.now in
    let on-grid = grid-points-at (triples_in c.args.grid.addresses.now) c.args.grid_points.now c.requires.0 c.loop-i.i c.loop-i-test.true in
    (rw c.magnitude_at-g.ensures on-grid, part_length c.loop-i.out (c.loop-i.i * size) size (room (goal.at.fill_neighbours-requires c).In-loop-i))

pub loop-i-preserved : goal.loop-i-preserved
loop-i-preserved c =
    let row : _ = rows_row (filled (goal.at.loop-i-preserved c).Start) c.loop-i.out c.fill_neighbours.new.out c.loop-i.i (triples_in c.args.steps.numbers.now) (room (goal.at.loop-i-preserved c).In-loop-i) c.fill_neighbours.auto.out c.loop-i.invariant.2 (rw c.magnitude_at-g.ensures at c.fill_neighbours.ensures) in
    (omega arith, row.0 ∙ c.loop-i.invariant.1, row.1)

pub returns : goal.returns
unfolding neighbours_of_all
returns c =
    let size = triples_in c.args.steps.numbers.now in
    let all = length c.args.grid_points.now in
    let e : c.loop-i.i ≡ all = omega arith in
    rows_end (filled (goal.at.returns c).Start) c.loop-i.out (c.loop-i.i * size) c.loop-i.i all c.loop-i.invariant.2 (c.loop-i.invariant.1 ∙ c.requires.1 ∙ ap (λ (n : ℕ). n * size) (sym e)) e
