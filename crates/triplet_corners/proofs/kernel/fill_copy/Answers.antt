-- `triplet_corners::kernel::fill_copy` meets its contract.
use borrow.Author.Rules.{rules}
use lib.IntN.{pos}
use lib.ListN.{get_or, length}
use mathlib.Core.Path.{◌∙◌}
use native.Mathlib.Omega.{arith}
use Rattle.list_laws.proofs.FillLaws.{fill_end, fill-next, fill_none}
use Rattle.list_laws.proofs.SignedLaws.{back}
use Rattle.list_laws.specs.Lists.{at}
use Rattle.question_grids.proofs.GridLaws.{triples-at}
use Rattle.triplet_corners.specs.Corners.{step_of}
use Rattle.triplet_corners.proofs.CornerLaws.{copy-tabulated}
use Rattle.triplet_corners.proofs.kernel.fill_copy.Goals as goal

pub loop-k-init : goal.loop-k-init
loop-k-init c =
    fill_none (λ k. step_of c.args.negated (at c.args.table.numbers.now k)) c.args.out.now

pub step_of-requires : goal.step_of-requires
step_of-requires c =
    rw (back (get_or c.args.table.numbers.now c.loop-k.k (pos 0)) (search rules)) (triples-at c.args.table.numbers.now c.args.table.tested c.loop-k.k (omega arith))

pub loop-k-preserved : goal.loop-k-preserved
loop-k-preserved c =
    let z : _ = rw (back (get_or c.args.table.numbers.now c.loop-k.k (pos 0)) (search rules)) at c.step_of.ensures in
    fill-next _ c.loop-k.out c.loop-k.k _ (omega (arith, c.requires)) c.loop-k.invariant (back c.step_of.result c.step_of.type_inv ∙ z)

pub returns : goal.returns
returns c =
    fill_end (λ k. step_of c.args.negated (at c.args.table.numbers.now k)) c.loop-k.out c.loop-k.k (length c.args.table.numbers.now) c.loop-k.invariant (omega arith) (omega (arith, c.requires)) ∙ copy-tabulated c.args.negated c.args.table.numbers.now
