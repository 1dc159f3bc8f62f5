-- `answer_weights::kernel::put_weights` meets its contract.
use lib.ListN.{length}
use mathlib.Core.Path.{ap}
use native.Mathlib.Omega.{arith}
use Rattle.answer_weights.proofs.ListedLaws.{listable, listed, wrote_front}
use Rattle.answer_weights.proofs.ReadyLaws.{lengths-yes}
use Rattle.answer_weights.proofs.kernel.put_weights.Goals as goal

pub fill_tested-requires : goal.fill_tested-requires
fill_tested-requires c =
    lengths-yes c.args.tested.now.sizes (length c.args.weights.now) (length c.args.flags.now) c.requires.0.fits.weighed c.requires.0.fits.flagged

pub invariant_of-sheet : goal.invariant_of-sheet
invariant_of-sheet c =
    record { listable = listable c.requires.0 _ _ c.fill_tested.ensures.0 c.fill_tested.ensures.1 }

pub put_listing-requires : goal.put_listing-requires
put_listing-requires c =
    omega (arith, c.requires.1, c.new-writer.ensures.front, ap length c.new-writer.ensures.content, ap length (listed c.requires.0 _ _ c.fill_tested.ensures.0 c.fill_tested.ensures.1))

pub returns : goal.returns
returns c =
    wrote_front c.new-writer.ensures.front c.new-writer.ensures.content c.put_listing.ensures (listed c.requires.0 _ _ c.fill_tested.ensures.0 c.fill_tested.ensures.1)
