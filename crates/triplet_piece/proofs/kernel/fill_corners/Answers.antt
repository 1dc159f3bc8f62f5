-- `triplet_piece::kernel::fill_corners` meets its contract.
use native.Mathlib.Omega.{arith}
use Rattle.triplet_piece.proofs.CornersLaws.{few_in, first_looked, second_looked, three_in}
use Rattle.triplet_piece.proofs.kernel.fill_corners.Goals as goal

pub overflow_mul-t : goal.overflow_mul-t
overflow_mul-t c = omega (arith, few_in c.args.tested.now c.args.t c.requires.t_in_bounds)

pub overflow_add-t : goal.overflow_add-t
overflow_add-t c = omega (arith, few_in c.args.tested.now c.args.t c.requires.t_in_bounds)

pub magnitude_at-g1-requires : goal.magnitude_at-g1-requires
magnitude_at-g1-requires c = omega (arith, three_in c.args.tested.now c.args.t c.requires.t_in_bounds)

pub overflow_mul-t-2 : goal.overflow_mul-t-2
overflow_mul-t-2 c = omega (arith, few_in c.args.tested.now c.args.t c.requires.t_in_bounds)

pub overflow_add-t-2 : goal.overflow_add-t-2
overflow_add-t-2 c = omega (arith, few_in c.args.tested.now c.args.t c.requires.t_in_bounds)

pub magnitude_at-g2-requires : goal.magnitude_at-g2-requires
magnitude_at-g2-requires c = three_in c.args.tested.now c.args.t c.requires.t_in_bounds

pub returns : goal.returns
returns c =
    let e1 : _ = rw (c.grid-grid.ensures.0, c.grid-grid.ensures.1.0, c.grid-grid.ensures.1.1, c.steps.ensures, c.magnitude_at-g1.ensures) at c.fill_corner_numbers.ensures in
    let e2 : _ = rw (c.grid-grid.ensures.0, c.grid-grid.ensures.1.0, c.grid-grid.ensures.1.1, c.magnitude_at-g2.ensures) at c.fill_corner_numbers-2.ensures in
    (first_looked c.args.tested.now c.args.t _ e1, second_looked c.args.tested.now c.args.second.now c.requires.copied c.args.t _ e2)
