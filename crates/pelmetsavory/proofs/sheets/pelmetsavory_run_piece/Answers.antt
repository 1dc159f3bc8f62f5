-- `pelmetsavory::sheets::pelmetsavory_run_piece` meets its contract.
use borrow.Author.Rules.{rules}
use mathlib.Core.Path.{refl}
use mir.Facts.{to_z-of_z}
use mir.Syntax.{w64}
use Rattle.pelmetsavory.proofs.SheetLaws.{called}
use Rattle.pelmetsavory.proofs.sheets.pelmetsavory_run_piece.Goals as goal

pub returns : goal.returns
returns c =
    let told = rw (to_z-of_z {w = w64} {z = c.args.worker} (search rules), c.from-named.ensures.0, c.from-named.ensures.1.0, c.from-named.ensures.1.1) at c.run_piece-done.ensures.did in
    called _ _ _ _ refl c.run_piece-done.result _ _ _ _ _ told c.settle.ensures.tally_after _ c.settle.ensures.status (search rules) (search rules) (search rules)
