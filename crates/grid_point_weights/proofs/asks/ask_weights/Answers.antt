-- `grid_point_weights::asks::ask_weights` meets its contract: the questions on the grid, and then the others.
use Rattle.ask.proofs.AskLaws.{group-yes}
use Rattle.ask.proofs.RefusalLaws.{given-is, group-refused, handed-on}
use Rattle.ask.specs.Ask.{Question}
use Rattle.ask.specs.Refusals.{answer_of}
use Rattle.bzgrid_lookup.proofs.CallLaws.{grid-numbered}
use Rattle.grid_point_weights.specs.Calls.{call_of, points_asked}
use Rattle.question_grids.specs.Grids.{questions_on}
use Prim.Native.Nat.{ℕ}
use lib.ListN.{length}
use mathlib.Core.List.{List}
use mathlib.Core.Path.{ap, sym, ◌∙◌}
use Rattle.grid_point_weights.proofs.asks.ask_weights.Goals.{Start}
use Rattle.grid_point_weights.proofs.asks.ask_weights.Goals as goal

-- the questions after those on the grid
abbrev others : Start → List Question
others s = points_asked (call_of s.args.study s.args.grid_points.now) (length s.args.iw.now)

pub returns-in_err-ask_grid : goal.returns-in_err-ask_grid
returns-in_err-ask_grid c =
    let g : _ = rw c.in_err-ask_grid.was at c.ask_grid.ensures in
    rw (handed-on _ c.from_residual.ensures.1) (group-refused (questions_on c.args.study.grid) (others (goal.at.returns-in_err-ask_grid c).Start) _ tt tt g)

pub returns : goal.returns
returns c =
    let g : _ = rw c.in_ok-ask_grid.was at c.ask_grid.ensures in
    let a = c.args.study.grid in
    c.ask_points.ensures ∙ ap (λ (n : ℕ). answer_of n tt) (sym (group-yes (questions_on a) (others (goal.at.returns c).Start) (grid-numbered a.bz_grid_type a.d_diag a.addresses.now a.gp_map.now) (given-is _ _ tt g).0))
