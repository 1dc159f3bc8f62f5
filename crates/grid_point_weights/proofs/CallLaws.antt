-- From "every answer is yes" to a sound study. Assumes nothing.
use mathlib.Core.Path.{◌≡◌}
use mathlib.Core.Bool.{true}
use Prim.Native.Nat.{ℕ, ◌*◌, ◌≤◌}
use native.Mathlib.Nat.{mul-le-mul}
use native.Mathlib.Omega.{arith}
use lib.IntN.{ℤ, pos}
use lib.ListN.{length}
use lib.Signed.{mag}
use Rattle.list_laws.proofs.BoolLaws.{and_left}
use Rattle.ask.specs.Ask.{first_no, AllYes, Numbered}
use Rattle.ask.proofs.AskLaws.{all_yes, none-no}
use Rattle.question_values.specs.Counts.{are_counts}
use Rattle.question_values.specs.Frequencies.{are_points}
use Rattle.question_values.proofs.CountLaws.{bands1-low, bands1-high, points-low, points-high}
use Rattle.question_grids.specs.Grids.{triples_in}
use Rattle.questions.specs.Irreducible.{are_irreducible}
use Rattle.questions.proofs.IrreducibleLaws.{frequencies-held, irreducible-length, irreducible-at}
use Rattle.question_grids.specs.Steps.{are_grid_points}
use Rattle.question_grids.proofs.StepLaws.{product-yes}
use Rattle.bzgrid_lookup.proofs.CallLaws.{sound-grid}
use Rattle.question_grids.specs.Tables.{rows_in}
use Rattle.question_grids.proofs.TableLaws.{rows-most}
use Rattle.grid_point_weights.specs.Weights.{Sound}
use Rattle.grid_point_weights.specs.Calls.{GridPointCall, study_of, points_asked, grid_point_questions}

module _ (bands : ℤ) (points gridPoints : ℕ) (e : are_counts bands bands (pos points) (pos gridPoints) ≡ true) where
  pub bands_some : 1 ≤ mag bands
  bands_some = bands1-low bands bands (pos points) (pos gridPoints) e

  points-some : 1 ≤ points
  points-some = points-low bands bands (pos points) (pos gridPoints) e

  points-few : points ≤ 1024
  points-few = points-high bands bands (pos points) (pos gridPoints) e

  -- the entries of one grid point: some, and not many
  pub size_some : 1 ≤ points * mag bands
  size_some = omega (arith, mul-le-mul points-some bands_some)

  pub size_few : points * mag bands ≤ 65536
  size_few = omega (arith, mul-le-mul points-few (bands1-high bands bands (pos points) (pos gridPoints) e))

-- a call whose questions are answered yes: its study is sound, its grid points lie on the grid, and its buffer has their entries
pub passed : (g : GridPointCall) (iw : ℕ) → first_no (grid_point_questions g iw) ≡ 0
    → Sound (mag g.num-ir) (study_of g) × ((are_grid_points (triples_in g.addresses) g.grid-points ≡ true) × (iw ≡ length g.grid-points * (length g.points * mag g.bands)))
passed g iw z =
    let p : ℕ = triples_in g.addresses in
    let numbered : Numbered (grid_point_questions g iw) = (omega arith, (omega arith, (omega arith, (omega arith, (omega arith, (omega arith, (omega arith, (omega arith, (omega arith, tt))))))))) in
    let all : AllYes (grid_point_questions g iw) = all_yes (grid_point_questions g iw) numbered z in
    let y : AllYes (points_asked g iw) = all.1.1.1.1 in
    let q : are_irreducible g.num-ir (mag g.bands) p g.frequencies g.irreducible ≡ true =
    and_left (are_irreducible g.num-ir (mag g.bands) p g.frequencies g.irreducible) (are_points g.points) y.1.1.1.0 in (
      record {
        sound-grid = sound-grid g.kind g.diag g.addresses g.gp-map (none-no _ (all.0, (all.1.0, (all.1.1.0, (all.1.1.1.0, tt)))));
        tabled = y.0;
        mapped = irreducible-length g.num-ir (mag g.bands) p g.frequencies g.irreducible q;
        few = size_few g.bands (length g.points) (length g.grid-points) y.1.0;
        held = frequencies-held g.num-ir (mag g.bands) p g.frequencies g.irreducible q;
        below = irreducible-at g.num-ir (mag g.bands) p g.frequencies g.irreducible q;
      },
      (y.1.1.0, product-yes (length g.grid-points) (length g.points * mag g.bands) iw y.1.1.1.1.0),
    )

-- and its table has few rows
pub passed-rows : (g : GridPointCall) (iw : ℕ) → first_no (grid_point_questions g iw) ≡ 0 → rows_in g.table ≤ 96
passed-rows g iw z = rows-most g.table (passed g iw z).0.tabled
