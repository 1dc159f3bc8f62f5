-- What a call did, as a status and what it left.
use Rattle.std.specs.Prelude.{◌≡◌, List, ℕ, Float, ℤ}
use Rattle.triplet_study.specs.Study.{Study}
use Rattle.std.specs.Borrow.{Bor}
use Rattle.ask.specs.Lent.{LentMut}
use Rattle.question_grids.specs.declared.Grid.{Grid as LentGrid}
use Rattle.pelmetsavory.specs.declared.Grid.{Grid}
use Rattle.triplet_iw.specs.Calls.{weights_no, AreFilled}
use Rattle.bzgrid.specs.Calls.{Around, point_no, found, many_no, all_found}
use Rattle.grid_point_weights.specs.Calls.{GridPointCall, grid_point_no, weighed}
use Rattle.customer_tables.specs.Calls.{checked_no, checked_weighed}

-- what a call for weights and flags did: the status, and what it left
abbrev pub CalledFill : Study → LentMut Float → LentMut ℤ → ℕ → Type 0
CalledFill s weights flags status = (status ≡ weights_no s weights.entry.now flags.entry.now) × AreFilled s weights flags

-- the numbers of a grid with its lent lists
abbrev pub lent_grid : Grid → Bor (List ℤ) → Bor (List ℤ) → LentGrid
lent_grid grid addresses gp-map =
    record { bz_grid_type = grid.bz_grid_type; d_diag = grid.d_diag; addresses = addresses; gp_map = gp-map }

-- a call for the neighbours of one point
abbrev pub CalledFind : Around → ℤ → ℕ → List ℤ → List ℤ → Type 0
CalledFind a point status old new = (status ≡ point_no a point old) × (new ≡ found a point old)

-- of many points
abbrev pub CalledFindAll : Around → List ℤ → ℕ → List ℤ → List ℤ → Type 0
CalledFindAll a points status old new = (status ≡ many_no a points old) × (new ≡ all_found a points old)

-- a call for the weights at grid points
abbrev pub CalledWeigh : GridPointCall → ℕ → List Float → List Float → Type 0
CalledWeigh g status old new = (status ≡ grid_point_no g old) × (new ≡ weighed g old)

-- the same under a table of the caller's
abbrev pub CalledWeighChecked : GridPointCall → ℕ → List Float → List Float → Type 0
CalledWeighChecked g status old new = (status ≡ checked_no g old) × (new ≡ checked_weighed g old)
