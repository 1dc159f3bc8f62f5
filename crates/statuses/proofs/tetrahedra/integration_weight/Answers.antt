-- `statuses::tetrahedra::integration_weight` meets its contract.
use mathlib.Core.Path.{refl}
use Rattle.tetrahedron_method.specs.Answer.{weight_questions}
use Rattle.statuses.proofs.StatusLaws.{status-is}
use Rattle.statuses.proofs.tetrahedra.integration_weight.Goals as goal

pub returns-clause-value : goal.returns-clause-value
returns-clause-value c = status-is (weight_questions c.args.omega c.args.tetrahedra_omegas.now) _ _ _ refl c.integration_weight.ensures c.store.ensures.status
