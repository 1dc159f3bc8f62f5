-- `triplet_iw::kernel::fill_study` meets its contract.
use Rattle.triplet_iw.proofs.CallLaws.{refused-before}
use Rattle.ask.proofs.RefusalLaws.{handed-on, refused-is, refused-not}
use Rattle.triplet_study.specs.Lent.{study_of}
use Rattle.triplet_study.specs.Study.{Study}
use Rattle.ask.proofs.AskLaws.{kept}
use lib.ListN.{length}
use Prim.Native.Nat.{ℕ}
use Rattle.triplet_iw.proofs.kernel.fill_study.Goals as goal

pub returns-in_err-tested : goal.returns-in_err-tested
returns-in_err-tested c =
    let a : Study = study_of c.args.study in
    let w : ℕ = length c.args.weights.now in
    let f : ℕ = length c.args.flags.now in
    let h : _ = rw c.in_err-tested.was at c.tested.ensures.asked in
    let n : _ = refused-not _ _ tt h in
    let e : _ = refused-before a w f n in
    (rw (handed-on _ c.from_residual.ensures.1) (refused-is _ _ _ tt tt h e), (kept _ _ _ _ e n, kept _ _ _ _ e n))
