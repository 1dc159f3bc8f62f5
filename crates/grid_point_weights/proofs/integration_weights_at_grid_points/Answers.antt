-- `grid_point_weights::integration_weights_at_grid_points` meets its contract.
use mathlib.Core.Path.{◌∙◌}
use Rattle.ask.proofs.AskLaws.{after-done, after-refused}
use Rattle.ask.proofs.RefusalLaws.{done-is, given-is, handed-on, refused-not}
use Rattle.grid_point_weights.proofs.integration_weights_at_grid_points.Goals as goal

pub returns-in_err-ask_weights : goal.returns-in_err-ask_weights
returns-in_err-ask_weights c =
    let g : _ = rw c.in_err-ask_weights.was at c.ask_weights.ensures in
    (rw (handed-on _ c.from_residual.ensures.1) g, after-refused _ _ _ (refused-not _ _ tt g))

pub weigh-requires : goal.weigh-requires
weigh-requires c =
    let g : _ = rw c.in_ok-ask_weights.was at c.ask_weights.ensures in (given-is _ _ tt g).0

pub returns : goal.returns
returns c =
    let g : _ = rw c.in_ok-ask_weights.was at c.ask_weights.ensures in
    let z : _ = (given-is _ _ tt g).0 in
    (done-is _ tt z, c.weigh.ensures ∙ after-done _ _ _ z)
