-- A main diagonal is a small vector, so its product may be made.
use Rattle.relative_grid_address.proofs.DiagonalLaws.{diagonal_small}
use Rattle.relative_grid_address.proofs.diagonal.length_of.Goals as goal

pub matvec-requires : goal.matvec-requires
matvec-requires c = rw c.main_diagonal.ensures (diagonal_small c.args.i c.requires)
