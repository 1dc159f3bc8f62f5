-- `customer_tables::ask_checked` meets its contract: the questions on the grid, those on the table, and the others.
use Prim.Native.Nat.{ℕ}
use lib.ListN.{length}
use mathlib.Core.List.{◌++◌}
use mathlib.Core.Path.{ap, sym, ◌∙◌}
use Rattle.ask.proofs.RefusalLaws.{given-is, group-refused, handed-on}
use Rattle.ask.specs.Refusals.{answer_of}
use Rattle.grid_point_weights.specs.Calls.{call_of, rest_asked}
use Rattle.question_grids.specs.Grids.{questions_on}
use Rattle.table_rules.specs.Questions.{table_questions}
use Rattle.customer_tables.proofs.CallLaws.{table-refused, rest-left}
use Rattle.customer_tables.proofs.ask_checked.Goals as goal

pub returns-in_err-ask_grid : goal.returns-in_err-ask_grid
returns-in_err-ask_grid c =
    let g : _ = rw c.in_err-ask_grid.was at c.ask_grid.ensures in
    let call = call_of c.args.study c.args.grid_points.now in
    rw (handed-on _ c.from_residual.ensures.1) (group-refused (questions_on c.args.study.grid) (table_questions call.table ++ rest_asked call (length c.args.iw.now)) _ tt tt g)

pub returns-in_err-check_relative_grid_address : goal.returns-in_err-check_relative_grid_address
returns-in_err-check_relative_grid_address c =
    let g : _ = rw c.in_ok-ask_grid.was at c.ask_grid.ensures in
    let t : _ = rw c.in_err-check_relative_grid_address.was at c.check_relative_grid_address.ensures in
    rw (handed-on _ c.from_residual-in_err-check_relative_grid_address.ensures.1)
    (table-refused (call_of c.args.study c.args.grid_points.now) (length c.args.iw.now) (given-is _ _ tt g).0 _ tt tt t)

pub returns : goal.returns
returns c =
    let g : _ = rw c.in_ok-ask_grid.was at c.ask_grid.ensures in
    let t : _ = rw c.in_ok-check_relative_grid_address.was at c.check_relative_grid_address.ensures in
    c.ask_rest.ensures
    ∙ ap (λ (n : ℕ). answer_of n tt) (sym (rest-left (call_of c.args.study c.args.grid_points.now) (length c.args.iw.now) (given-is _ _ tt g).0 (given-is _ _ tt t).0))
