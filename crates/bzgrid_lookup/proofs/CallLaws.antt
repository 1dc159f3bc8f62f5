-- From "every answer is yes" to a sound grid. Assumes nothing.
use mathlib.Core.Path.{◌≡◌}
use mathlib.Core.Bool.{Bool, true, false, cond}
use mathlib.Core.List.{List}
use Prim.Native.Nat.{ℕ}
use native.Mathlib.Omega.{arith}
use lib.IntN.{ℤ}
use Rattle.list_laws.specs.Signed.{is_nat}
use Rattle.numbers.specs.Mesh.{count_of, mesh_of}
use Rattle.ask.specs.Ask.{first_no, AllYes, Numbered}
use Rattle.question_grids.specs.Grids.{grid_questions, triples_in, is_map, is_sparse_map, is_dense_map}
use Rattle.ask.proofs.AskLaws.{all_yes}
use Rattle.question_grids.proofs.GridLaws.{mesh-within}
use Rattle.bzgrid_lookup.specs.declared.GridKind.TheVariants.{Sparse, Dense}
use Rattle.bzgrid_lookup.specs.Neighbours.{kind_of, grid_of, map_fits, SoundGrid}

fits_by : (b : Bool) (n p : ℕ) (gp-map : List ℤ) → cond b (is_sparse_map n p gp-map) (is_dense_map n p gp-map) ≡ true → map_fits (cond b Sparse Dense) n p gp-map ≡ true
fits_by true n p gp-map e = e
fits_by false n p gp-map e = e

module _ (kind : ℤ) (diag addresses gp-map : List ℤ) where
  pub grid-numbered : Numbered (grid_questions kind diag addresses gp-map)
  grid-numbered = (omega arith, (omega arith, (omega arith, (omega arith, tt))))

  pub sound-grid : first_no (grid_questions kind diag addresses gp-map) ≡ 0 → SoundGrid (grid_of kind diag) addresses gp-map
  unfolding grid_of kind_of is_map
  sound-grid e =
      let y : AllYes (grid_questions kind diag addresses gp-map) = all_yes (grid_questions kind diag addresses gp-map) grid-numbered e in
      record {
        mesh = mesh-within 128 diag y.1.0;
        addressed = y.1.1.0;
        mapped = fits_by (is_nat kind 1) (count_of (mesh_of diag)) (triples_in addresses) gp-map y.1.1.1.0;
      }
