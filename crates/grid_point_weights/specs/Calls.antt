-- The questions of the weights at grid points, and what a call did.
use Rattle.std.specs.Prelude.{◌≡◌, ◌&&◌, List, [], ◌∷◌, ◌++◌, ℕ, ◌*◌, ℤ, pos, Float, length}
use Rattle.std.specs.Int.Signed.{mag}
use Rattle.std.specs.declared.result.Result.{Result}
use Rattle.ask.specs.declared.refusal.Refusal.{Refusal}
use Rattle.ask.specs.Refusals.{answer_of}
use Rattle.ask.specs.Ask.{Question, asks, first_no, after_call}
use Rattle.ask.specs.Lent.{Lent}
use Rattle.question_grids.specs.Grids.{grid_questions, triples_in}
use Rattle.question_grids.specs.Tables.{is_table}
use Rattle.question_values.specs.Counts.{are_counts, is_product}
use Rattle.question_grids.specs.Steps.{are_grid_points}
use Rattle.questions.specs.Irreducible.{are_irreducible}
use Rattle.question_values.specs.Frequencies.{are_points}
use Rattle.bzgrid_lookup.specs.Neighbours.{grid_of}
use Rattle.tetrahedron_method.specs.declared.WeightFunction.{WeightFunction}
use Rattle.grid_point_weights.specs.declared.GridPointStudy.{GridPointStudy}
use Rattle.grid_point_weights.specs.declared.tested.TestedStudy.{TestedStudy}
use Rattle.grid_point_weights.specs.Weights.{GridStudy, study, weights_of_all}
use Rattle.grid_point_weights.specs.Lent.{lent_study}

-- what the call takes, any numbers: grid kind, mesh, addresses and map; the table; the count of bands; the points; the grid points; R, the
-- frequencies of the irreducible points, and the map to them; I or J
pub record GridPointCall : Type 0 where
  pub kind : ℤ
  pub diag : List ℤ
  pub addresses : List ℤ
  pub gp-map : List ℤ
  pub table : List ℤ
  pub bands : ℤ
  pub points : List Float
  pub grid-points : List ℤ
  pub num-ir : ℤ
  pub frequencies : List Float
  pub irreducible : List ℤ
  pub function : WeightFunction

-- it, in the order of the call's parameters
abbrev pub call_in : Lent Float → Lent ℤ → Lent ℤ → Lent Float → ℤ → ℤ → ℤ → List ℤ → Lent ℤ → Lent ℤ → Lent ℤ → WeightFunction → GridPointCall
call_in points table grid-points frequencies bands num-ir kind diag addresses gp-map irreducible function =
    record {
      kind = kind;
      diag = diag;
      addresses = addresses.entry.now;
      gp-map = gp-map.entry.now;
      table = table.entry.now;
      bands = bands;
      points = points.entry.now;
      grid-points = grid-points.entry.now;
      num-ir = num-ir;
      frequencies = frequencies.entry.now;
      irreducible = irreducible.entry.now;
      function = function;
    }

-- it, of a lent study and the grid points
abbrev pub call_of : GridPointStudy → List ℤ → GridPointCall
call_of s grid-points =
    record {
      kind = s.grid.bz_grid_type;
      diag = s.grid.d_diag;
      addresses = s.grid.addresses.now;
      gp-map = s.grid.gp_map.now;
      table = s.relative_grid_address.now;
      bands = s.num_band;
      points = s.frequency_points.now;
      grid-points = grid-points;
      num-ir = s.num_ir;
      frequencies = s.frequencies.now;
      irreducible = s.gp2irgp_map.now;
      function = s.function;
    }

-- what the weights of a tested study are made from
abbrev pub tested_study : TestedStudy → GridStudy
tested_study t = lent_study t.grid t.bands t.lent

-- what its weights are made from
abbrev pub study_of : GridPointCall → GridStudy
study_of g =
    study (grid_of g.kind g.diag) g.addresses g.gp-map g.table g.irreducible g.frequencies (mag g.bands) g.points g.function

-- after the table: 9 the counts, 10 the grid points, 11 the frequencies, the map to them and the points, 12 the buffer
abbrev pub points_questions : ℤ → List Float → List ℤ → ℕ → ℤ → List Float → List ℤ → ℕ → List Question
points_questions bands points gridPoints p r frequencies irreducible iw =
    asks 9 (are_counts bands bands (pos (length points)) (pos (length gridPoints)))
    ∷ asks 10 (are_grid_points p gridPoints)
    ∷ asks 11 (are_irreducible r (mag bands) p frequencies irreducible && are_points points)
    ∷ asks 12 (is_product (length gridPoints) (length points * mag bands) iw)
    ∷ []

-- after the grid: 7 the table, then 9 to 12
abbrev pub weights_questions : List ℤ → ℤ → List Float → List ℤ → ℕ → ℤ → List Float → List ℤ → ℕ → List Question
weights_questions table bands points gridPoints p r frequencies irreducible iw =
    asks 7 (is_table table) ∷ points_questions bands points gridPoints p r frequencies irreducible iw

-- 9 to 12 of a call
abbrev pub rest_asked : GridPointCall → ℕ → List Question
rest_asked g iw = points_questions g.bands g.points g.grid-points (triples_in g.addresses) g.num-ir g.frequencies g.irreducible iw

-- and 7 before them
abbrev pub points_asked : GridPointCall → ℕ → List Question
points_asked g iw = weights_questions g.table g.bands g.points g.grid-points (triples_in g.addresses) g.num-ir g.frequencies g.irreducible iw

-- The questions of `integration_weights_at_grid_points`, in their order.
abbrev pub grid_point_questions : GridPointCall → ℕ → List Question
grid_point_questions g iw = grid_questions g.kind g.diag g.addresses g.gp-map ++ points_asked g iw

-- the number of the first no, by the buffer
abbrev pub grid_point_no : GridPointCall → List Float → ℕ
grid_point_no g iw = first_no (grid_point_questions g (length iw))

-- what the buffer holds afterwards: the weights of each grid point in turn, and after a refusal its old content
abbrev pub weighed : GridPointCall → List Float → List Float
weighed g old = after_call (grid_point_no g old) (weights_of_all (study_of g) g.grid-points) old

-- What a call did: its answer, and the buffer before and after it.
abbrev pub DidWeigh : GridPointCall → Result (Unit {0}) Refusal → List Float → List Float → Type 0
DidWeigh g answer old new = (answer ≡ answer_of (grid_point_no g old) tt) × (new ≡ weighed g old)
