-- `pelmetsavory::playing::pelmetsavory_play` meets its contract.
use borrow.Author.Rules.{rules}
use Rattle.pelmetsavory.proofs.SheetLaws.{called-play}
use Rattle.pelmetsavory.proofs.playing.pelmetsavory_play.Goals as goal

pub returns : goal.returns
returns c =
    called-play _ _ _ _ _ _ _ _ c.play-done.result _ _ _ _ _ _ _ c.play-done.ensures.did c.settle.ensures.tally_after _ c.settle.ensures.status (search rules) (search rules) (search rules)
