-- `triplet_iw::kernel::fill_tested` meets its contract.
use Rattle.triplet_iw.proofs.WholeLaws.{all-computed}
use Rattle.triplet_iw.proofs.TripletLaws.{triplets-more, triplets-none}
use Rattle.triplet_corners.proofs.CornerLaws.{second-lent}
use Rattle.triplet_study.proofs.TestedLaws.{tested-ready}
use Rattle.triplet_study.specs.Lent.{study_of}
use Rattle.triplet_study.specs.Tested.{Ready}
use lib.ListN.{length}
use native.Mathlib.Omega.{arith}
use mathlib.Core.Path.{◌≡◌, refl}
use Rattle.triplet_iw.proofs.kernel.fill_tested.Goals.{Start}
use Rattle.triplet_iw.proofs.kernel.fill_tested.Goals as goal

-- the study is ready
is-ready : (s : Start) → Ready (study_of s.args.tested.now.study) s.args.tested.now.sizes (length s.args.weights.now) (length s.args.flags.now)
is-ready s = tested-ready s.args.tested.now (length s.args.weights.now) (length s.args.flags.now) s.requires

pub loop-t-init : goal.loop-t-init
loop-t-init c =
    triplets-none (study_of c.args.tested.now.study) c.args.tested.now.sizes.pairs c.args.weights.now c.args.flags.now

pub fill_triplet-requires-clause-copied : goal.fill_triplet-requires-clause-copied
fill_triplet-requires-clause-copied c =
    second-lent c.args.tested.now.sizes.tp c.args.tested.now.study.relative_grid_address.now _ (rw c.steps.ensures at c.second_steps-second.ensures)

pub loop-t-preserved : goal.loop-t-preserved
loop-t-preserved c =
    triplets-more (study_of c.args.tested.now.study) c.args.tested.now.sizes.pairs c.loop-t.t c.loop-t.invariant c.fill_triplet.ensures

pub returns : goal.returns
returns c =
    let e : c.loop-t.t ≡ c.args.tested.now.sizes.triplets = omega arith in
    all-computed (is-ready (goal.at.returns c).Start) c.loop-t.t e refl refl c.loop-t.invariant
