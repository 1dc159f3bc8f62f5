-- `statuses::grids::matvec_di` meets its contract.
use mathlib.Core.Path.{refl, ◌∙◌}
use Rattle.ask.specs.Ask.{first_no}
use Rattle.common.specs.Matrix.{matvec_answer, matvec_questions}
use Rattle.statuses.proofs.StatusLaws.{status-is, stored-is}
use Rattle.statuses.proofs.grids.matvec_di.Goals as goal

pub returns-clause-value : goal.returns-clause-value
unfolding matvec_answer
returns-clause-value c = status-is (matvec_questions c.args.a.now c.args.b) _ _ _ refl c.matvec_di.ensures c.store.ensures.status

pub returns-clause-product_after : goal.returns-clause-product_after
unfolding matvec_answer
returns-clause-product_after c =
    c.store.ensures.out_after ∙ stored-is (first_no (matvec_questions c.args.a.now c.args.b)) _ c.args.product.now _ c.matvec_di.ensures
