-- `bzgrid::neighboring_grid_points_many` meets its contract.
use Rattle.bzgrid.specs.Calls.{steps_questions}
use Rattle.question_grids.proofs.StepLaws.{product-yes, steps-triples}
use lib.ListN.{length}
use mathlib.Core.List.{◌++◌, List}
use mathlib.Core.Path.{◌∙◌, ◌≡◌}
use native.Mathlib.Omega.{arith}
use Rattle.bzgrid_lookup.proofs.CallLaws.{grid-numbered}
use Rattle.ask.proofs.AskLaws.{after-done, all_yes, group-no, group-yes, kept}
use Rattle.ask.proofs.RefusalLaws.{done-is, given-is, handed-on, refused-is, refused-not}
use Rattle.ask.specs.Ask.{AllYes, first_no, Question}
use Rattle.question_grids.specs.Grids.{triples_in, grid_questions}
use Rattle.bzgrid.proofs.neighboring_grid_points_many.Goals.{Start}
use Rattle.bzgrid.proofs.neighboring_grid_points_many.Goals as goal

abbrev grids : Start → List Question
grids s = grid_questions s.args.grid.bz_grid_type s.args.grid.d_diag s.args.grid.addresses.now s.args.grid.gp_map.now

abbrev others : Start → List Question
others s = steps_questions s.args.relative_grid_address.now s.args.grid_points.now (triples_in s.args.grid.addresses.now) (length s.args.out.now)

-- the questions after those on the grid, once these are answered yes
later : (s : Start) → first_no (grids s) ≡ 0 → first_no (grids s ++ others s) ≡ first_no (others s)
later s z = group-yes (grids s) (others s) (grid-numbered s.args.grid.bz_grid_type s.args.grid.d_diag s.args.grid.addresses.now s.args.grid.gp_map.now) z

-- those questions, once they are answered yes
asked : (s : Start) → first_no (others s) ≡ 0 → AllYes (others s)
asked s z = all_yes (others s) (omega arith, (omega arith, (omega arith, (omega arith, tt)))) z

pub returns-in_err-ask_grid : goal.returns-in_err-ask_grid
returns-in_err-ask_grid c =
    let s : _ = (goal.at.returns-in_err-ask_grid c).Start in
    let g : _ = rw c.in_err-ask_grid.was at c.ask_grid.ensures in
    let e : first_no (grids s ++ others s) ≡ first_no (grids s) = group-no (grids s) (others s) (refused-not _ _ tt g) in
    (rw (handed-on _ c.from_residual.ensures.1) (refused-is _ _ _ _ tt g e), kept _ _ _ _ e (refused-not _ _ tt g))

pub returns-in_err-ask_points : goal.returns-in_err-ask_points
returns-in_err-ask_points c =
    let s : _ = (goal.at.returns-in_err-ask_points c).Start in
    let z : first_no (grids s) ≡ 0 = (given-is _ _ tt (rw c.in_ok-ask_grid.was at c.ask_grid.ensures)).0 in
    let g : _ = rw (c.in_err-ask_points.was) at c.ask_points.ensures in
    (rw (handed-on _ c.from_residual-in_err-ask_points.ensures.1) (refused-is _ _ _ _ tt g (later s z)), kept _ _ _ _ (later s z) (refused-not _ _ tt g))

pub fill_many-requires : goal.fill_many-requires
fill_many-requires c =
    let s : _ = (goal.at.fill_many-requires c).Start in
    let y : AllYes (others s) = asked s (given-is _ _ tt (rw c.in_ok-ask_points.was at c.ask_points.ensures)).0 in
    rw c.new-tested.ensures.1.0 (y.1.1.0, product-yes (length c.args.grid_points.now) (triples_in c.args.relative_grid_address.now) (length c.args.out.now) y.1.1.1.0)

pub invariant_of-steps : goal.invariant_of-steps
invariant_of-steps c =
    let s : _ = (goal.at.invariant_of-steps c).Start in
    let y : AllYes (others s) = asked s (given-is _ _ tt (rw c.in_ok-ask_points.was at c.ask_points.ensures)).0 in
    record { tested = steps-triples c.args.relative_grid_address.now y.0 }

pub returns : goal.returns
returns c =
    let s : _ = (goal.at.returns c).Start in
    let z : first_no (grids s) ≡ 0 = (given-is _ _ tt (rw c.in_ok-ask_grid.was at c.ask_grid.ensures)).0 in
    let no : first_no (others s) ≡ 0 = (given-is _ _ tt (rw (c.in_ok-ask_points.was) at c.ask_points.ensures)).0 in
    let e : first_no (grids s ++ others s) ≡ 0 = later s z ∙ no in
    (done-is _ tt e, rw (c.new-tested.ensures.0, c.new-tested.ensures.1.0, c.new-tested.ensures.1.1) at c.fill_many.ensures ∙ after-done _ _ _ e)
