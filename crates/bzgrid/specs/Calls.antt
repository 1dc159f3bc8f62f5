-- The questions of the two neighbour calls, and what a call did.
use Rattle.std.specs.Prelude.{◌≡◌, List, [], ◌∷◌, ◌++◌, ℕ, eqb, ℤ, length}
use Rattle.std.specs.Int.Signed.{mag}
use Rattle.list_laws.specs.Signed.{is_below}
use Rattle.std.specs.declared.result.Result.{Result}
use Rattle.ask.specs.declared.refusal.Refusal.{Refusal}
use Rattle.ask.specs.Refusals.{answer_of}
use Rattle.ask.specs.Ask.{Question, asks, first_no, after_call}
use Rattle.ask.specs.Lent.{Lent}
use Rattle.question_grids.specs.declared.Grid.{Grid}
use Rattle.question_grids.specs.Grids.{grid_questions, triples_in}
use Rattle.question_grids.specs.Steps.{are_steps, are_grid_points}
use Rattle.question_values.specs.Counts.{is_triplet_count, is_product}
use Rattle.bzgrid_lookup.specs.Neighbours.{grid_of}
use Rattle.bzgrid.specs.Lists.{neighbours_of, neighbours_of_all}

-- for one point, after the grid: 7 the steps, 10 the point, 12 the buffer
abbrev pub step_questions : List ℤ → ℤ → ℕ → ℕ → List Question
step_questions steps point p out =
    asks 7 (are_steps steps) ∷ asks 10 (is_below point p) ∷ asks 12 (eqb out (triples_in steps)) ∷ []

-- for many points, after the grid: 7 the steps, 9 their count, 10 the points, 12 the buffer
abbrev pub steps_questions : List ℤ → List ℤ → ℕ → ℕ → List Question
steps_questions steps points p out =
    asks 7 (are_steps steps)
    ∷ asks 9 (is_triplet_count (length points))
    ∷ asks 10 (are_grid_points p points)
    ∷ asks 12 (is_product (length points) (triples_in steps) out)
    ∷ []

-- where the neighbours are looked up: grid kind, mesh, addresses and map, and the steps
pub record Around : Type 0 where
  pub kind : ℤ
  pub diag : List ℤ
  pub addresses : List ℤ
  pub gp-map : List ℤ
  pub steps : List ℤ

-- it, from what a call takes
abbrev pub around_in : ℤ → List ℤ → Lent ℤ → Lent ℤ → Lent ℤ → Around
around_in kind diag addresses gp-map steps =
    record { kind = kind; diag = diag; addresses = addresses.entry.now; gp-map = gp-map.entry.now; steps = steps.entry.now }

-- it, from a lent grid and lent steps
abbrev pub around_of : Grid → Lent ℤ → Around
around_of grid steps =
    record { kind = grid.bz_grid_type; diag = grid.d_diag; addresses = grid.addresses.now; gp-map = grid.gp_map.now; steps = steps.entry.now }

-- ---- one point

-- The questions of `fill_neighboring_grid_points`, in their order.
abbrev pub point_questions : Around → ℤ → ℕ → List Question
point_questions a point out =
    grid_questions a.kind a.diag a.addresses a.gp-map ++ step_questions a.steps point (triples_in a.addresses) out

-- the number of the first no, by the buffer
abbrev pub point_no : Around → ℤ → List ℤ → ℕ
point_no a point out = first_no (point_questions a point (length out))

-- what the buffer holds afterwards: the neighbours of the point, and after a refusal its old content
abbrev pub found : Around → ℤ → List ℤ → List ℤ
found a point old =
    after_call (point_no a point old) (neighbours_of (grid_of a.kind a.diag) a.addresses a.gp-map a.steps (mag point)) old

-- What a call did: its answer, and the buffer before and after it.
abbrev pub DidFind : Around → ℤ → Result Unit Refusal → List ℤ → List ℤ → Type 0
DidFind a point answer old new = (answer ≡ answer_of (point_no a point old) tt) × (new ≡ found a point old)

-- ---- many points

-- The questions of `neighboring_grid_points_many`, in their order.
abbrev pub many_questions : Around → List ℤ → ℕ → List Question
many_questions a points out =
    grid_questions a.kind a.diag a.addresses a.gp-map ++ steps_questions a.steps points (triples_in a.addresses) out

-- the number of the first no, by the buffer
abbrev pub many_no : Around → List ℤ → List ℤ → ℕ
many_no a points out = first_no (many_questions a points (length out))

-- what the buffer holds afterwards: the neighbours of each point in turn, and after a refusal its old content
abbrev pub all_found : Around → List ℤ → List ℤ → List ℤ
all_found a points old =
    after_call (many_no a points old) (neighbours_of_all (grid_of a.kind a.diag) a.addresses a.gp-map a.steps points) old

-- What a call did: its answer, and the buffer before and after it.
abbrev pub DidFindAll : Around → List ℤ → Result Unit Refusal → List ℤ → List ℤ → Type 0
DidFindAll a points answer old new = (answer ≡ answer_of (many_no a points old) tt) × (new ≡ all_found a points old)
