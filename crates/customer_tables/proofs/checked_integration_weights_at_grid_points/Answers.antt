-- `customer_tables::checked_integration_weights_at_grid_points` meets its contract.
use lib.ListN.{length}
use mathlib.Core.Path.{◌∙◌}
use Rattle.ask.proofs.AskLaws.{after-done, after-refused}
use Rattle.ask.proofs.RefusalLaws.{done-is, given-is, handed-on, refused-not}
use Rattle.grid_point_weights.specs.Calls.{call_of}
use Rattle.customer_tables.proofs.CallLaws.{checked-none}
use Rattle.customer_tables.proofs.checked_integration_weights_at_grid_points.Goals as goal

pub returns-in_err-ask_checked : goal.returns-in_err-ask_checked
returns-in_err-ask_checked c =
    let g : _ = rw c.in_err-ask_checked.was at c.ask_checked.ensures in
    (rw (handed-on _ c.from_residual.ensures.1) g, after-refused _ _ _ (refused-not _ _ tt g))

pub weigh-requires : goal.weigh-requires
weigh-requires c =
    let g : _ = rw c.in_ok-ask_checked.was at c.ask_checked.ensures in
    checked-none (call_of c.args.study c.args.grid_points.now) (length c.args.iw.now) (given-is _ _ tt g).0

pub returns : goal.returns
returns c =
    let g : _ = rw c.in_ok-ask_checked.was at c.ask_checked.ensures in
    let z : _ = (given-is _ _ tt g).0 in
    (done-is _ tt z, c.weigh.ensures ∙ after-done _ _ _ z)
