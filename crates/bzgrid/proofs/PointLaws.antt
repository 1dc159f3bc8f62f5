-- One point is a list of one: the questions have the same first no, and the neighbours are the same. Assumes nothing.
use mathlib.Core.Path.{◌≡◌, refl}
use mathlib.Core.List.{List, [], ◌∷◌, ◌++◌}
use Prim.Native.Nat.{ℕ, ◌*◌}
use native.Mathlib.Omega.{arith}
use lib.IntN.{ℤ}
use lib.ListN.{length}
use Rattle.std.specs.declared.result.Result.{Result}
use Rattle.ask.specs.declared.refusal.Refusal.{Refusal}
use Rattle.ask.specs.Ask.{Question, asks, first_no}
use Rattle.list_laws.specs.Lists.{all_below, rows}
use Rattle.question_grids.specs.Grids.{triples_in, grid_questions}
use Rattle.question_grids.specs.Steps.{are_grid_points}
use Rattle.question_values.specs.Counts.{is_product}
use Rattle.bzgrid.specs.Lists.{neighbours_of_all}
use Rattle.bzgrid.specs.Calls.{Around, step_questions, steps_questions, point_no, many_no, DidFind, DidFindAll}

-- questions asked first
behind : (qs before after : List Question) → first_no before ≡ first_no after → first_no (qs ++ before) ≡ first_no (qs ++ after)
unfolding first_no
behind [] before after e = e
behind (asks n b ∷ qs) before after e = rw (behind qs before after e) refl

same-steps : (steps : List ℤ) (point : ℤ) (p out : ℕ) → first_no (steps_questions steps (point ∷ []) p out) ≡ first_no (step_questions steps point p out)
unfolding first_no are_grid_points is_product all_below
same-steps steps point p out =
    let one : 1 * triples_in steps ≡ triples_in steps = omega arith in
    rw one refl

same-no : (a : Around) (point : ℤ) (out : List ℤ) → many_no a (point ∷ []) out ≡ point_no a point out
same-no a point out = behind (grid_questions a.kind a.diag a.addresses a.gp-map) _ _ (same-steps a.steps point (triples_in a.addresses) (length out))

pub found-one : (a : Around) (point : ℤ) (answer : Result Unit Refusal) (old new : List ℤ) → DidFindAll a (point ∷ []) answer old new → DidFind a point answer old new
unfolding neighbours_of_all rows
found-one a point answer old new did = rw (same-no a point old) at did
