-- `bzgrid_lookup::kernel::dense_neighbour` meets its contract.
use Prim.Native.Nat.{◌+◌, ◌<◌, ℕ}
use native.Mathlib.Omega.{arith}
use Rattle.numbers.proofs.MeshLaws.{count-le}
use Rattle.numbers.specs.Mesh.{count_of}
use Rattle.grgrid.proofs.IndexLaws.{index-lt}
use Rattle.question_grids.proofs.GridLaws.{dense-length, dense-step, dense-top}
use Rattle.question_grids.specs.Grids.{triples_in}
use Rattle.bzgrid_lookup.proofs.kernel.dense_neighbour.Goals as goal

pub magnitude_at-lo-requires : goal.magnitude_at-lo-requires
magnitude_at-lo-requires c =
    omega (arith, c.grid_index-g.ensures, index-lt c.requires.0 c.args.w, dense-length _ _ _ c.requires.1)

pub overflow_add-g : goal.overflow_add-g
overflow_add-g c =
    omega (arith, c.grid_index-g.ensures, index-lt c.requires.0 c.args.w, count-le c.requires.0)

pub magnitude_at-hi-requires : goal.magnitude_at-hi-requires
magnitude_at-hi-requires c =
    omega (arith, c.grid_index-g.ensures, index-lt c.requires.0 c.args.w, dense-length _ _ _ c.requires.1)

pub in_group-requires : goal.in_group-requires
in_group-requires c =
    let n : ℕ = count_of c.args.m in
    let p : ℕ = triples_in c.args.addresses.now in
    let g : ℕ = c.grid_index-g.result in
    let l : g < n = rw c.grid_index-g.ensures (index-lt c.requires.0 c.args.w) in
    omega (arith, c.magnitude_at-lo.ensures, c.magnitude_at-hi.ensures, dense-step n p c.args.gp_map.now c.requires.1 g l, dense-top n p c.args.gp_map.now c.requires.1 (g + 1) (omega arith))
