-- `answer_weights::kernel::put_study` meets its contract.
use Prim.Native.Nat.{◌*◌, ◌≤◌}
use lib.ListN.{length, take}
use lib.Seq.{length-take-le}
use mathlib.Core.Path.{◌≡◌, sym}
use native.Mathlib.Omega.{arith}
use Rattle.answer_weights.proofs.ReadyLaws.{few-made, may-list, passed}
use Rattle.triplet_study.specs.Lent.{study_of}
use Rattle.answer_weights.proofs.kernel.put_study.Goals.{After-flag_buffer-flags, After-sizes_of_passed-sizes, After-weight_buffer-weights}
use Rattle.answer_weights.proofs.kernel.put_study.Goals as goal

-- its counts are few
few : (c : After-sizes_of_passed-sizes) → (c.sizes_of_passed-sizes.result.cells ≤ 4096) × (c.sizes_of_passed-sizes.result.channels * c.sizes_of_passed-sizes.result.cells ≤ 4096)
few c =
    few-made (study_of c.args.study) c.requires.passed c.sizes_of_passed-sizes.result c.sizes_of_passed-sizes.ensures

-- the lent parts of the buffers are as long as the counts say
weights-fit : (c : After-weight_buffer-weights) → length (take (c.sizes_of_passed-sizes.result.channels * c.sizes_of_passed-sizes.result.cells) c.weight_buffer-weights.result) ≡ c.sizes_of_passed-sizes.result.channels * c.sizes_of_passed-sizes.result.cells
weights-fit c = length-take-le _ c.weight_buffer-weights.result (omega (arith, (few-made (study_of c.args.study) c.requires.passed c.sizes_of_passed-sizes.result c.sizes_of_passed-sizes.ensures).1, c.weight_buffer-weights.ensures))

flags-fit : (c : After-flag_buffer-flags) → length (take c.sizes_of_passed-sizes.result.cells c.flag_buffer-flags.result) ≡ c.sizes_of_passed-sizes.result.cells
flags-fit c = length-take-le _ c.flag_buffer-flags.result (omega (arith, (few-made (study_of c.args.study) c.requires.passed c.sizes_of_passed-sizes.result c.sizes_of_passed-sizes.ensures).0, c.flag_buffer-flags.ensures))

pub sizes_of_passed-sizes-requires : goal.sizes_of_passed-sizes-requires
sizes_of_passed-sizes-requires c =
    passed (study_of c.args.study) c.requires.passed

pub invariant_of-tested-clause-told : goal.invariant_of-tested-clause-told
invariant_of-tested-clause-told c =
    passed (study_of c.args.study) c.requires.passed

pub overflow_mul-n : goal.overflow_mul-n
overflow_mul-n c =
    omega (arith, (few (goal.at.overflow_mul-n c).After-sizes_of_passed-sizes).1)

pub slice_bounds-weights-end : goal.slice_bounds-weights-end
slice_bounds-weights-end c =
    omega (arith, (few (goal.at.slice_bounds-weights-end c).After-sizes_of_passed-sizes).1, c.weight_buffer-weights.ensures)

pub slice_bounds-put_weights-end : goal.slice_bounds-put_weights-end
slice_bounds-put_weights-end c =
    sym (weights-fit (goal.at.slice_bounds-put_weights-end c).After-weight_buffer-weights)

pub slice_bounds-flags-end : goal.slice_bounds-flags-end
slice_bounds-flags-end c =
    omega (arith, (few (goal.at.slice_bounds-flags-end c).After-sizes_of_passed-sizes).0, c.flag_buffer-flags.ensures)

pub slice_bounds-put_weights-end-2 : goal.slice_bounds-put_weights-end-2
slice_bounds-put_weights-end-2 c =
    sym (flags-fit (goal.at.slice_bounds-put_weights-end-2 c).After-flag_buffer-flags)

pub put_weights-requires : goal.put_weights-requires
put_weights-requires c =
    may-list (study_of c.args.study) c.requires.passed c.sizes_of_passed-sizes.result c.sizes_of_passed-sizes.ensures _ _ (weights-fit (goal.at.put_weights-requires c).After-weight_buffer-weights) (flags-fit (goal.at.put_weights-requires c).After-flag_buffer-flags) c.requires.points_len_bound.0 c.requires.points_len_bound.1
