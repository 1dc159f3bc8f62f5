-- `triplet_addresses::copies::fill_copies` meets its contract.
use Rattle.triplet_addresses.proofs.CopyLaws.{copies-are}
use Rattle.triplet_addresses.proofs.copies.fill_copies.Goals as goal

pub returns : goal.returns
returns c =
    copies-are c.args.table.numbers.now c.args.out.now c.args.negated c.fill_copy.new.out c.fill_copy-2.new.out c.requires c.fill_copy.ensures c.fill_copy-2.ensures
