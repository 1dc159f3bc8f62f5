-- `sheet_step::kernel::asks::piece_ok` meets its contract.
use borrow.Author.Rules.{rules}
use mir.Syntax.{w64}
use mir.Facts.{to_z-of_z}
use Rattle.sheet_step.specs.Steps.{is_piece}
use Rattle.sheet_step.proofs.kernel.asks.piece_ok.Goals as goal

pub returns : goal.returns
unfolding is_piece
returns c =
    rw (c.is_below.ensures, c.is_below-2.ensures, c.is_below-3.ensures, to_z-of_z {w = w64} {z = c.args.piece.triplet} (search rules), to_z-of_z {w = w64} {z = c.args.piece.b1} (search rules), to_z-of_z {w = w64} {z = c.args.piece.b2} (search rules))
