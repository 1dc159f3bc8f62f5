-- `sheet_list::play` meets its contract.
use lib.ListN.{length}
use Rattle.ask.proofs.RefusalLaws.{given-is}
use Rattle.sheet_list.proofs.ListLaws.{list-yes}
use Rattle.sheet_step.specs.Lent.{sheet_of}
use Rattle.sheet_step.specs.Steps.{Sheet}
use Rattle.sheet_list.proofs.play.Goals.{Start}
use Rattle.sheet_list.proofs.play.Goals as goal

abbrev start : Start → Sheet
start s = sheet_of s.args.sheet.now s.args.tally.runs

pub invariant_of-list : goal.invariant_of-list
invariant_of-list c =
    let told : _ = rw c.in_ok-ask_list.was at c.ask_list.ensures in
    let yes = list-yes (length c.args.calls.list.now) (length c.args.answers.now) (length c.args.tallies.now) (given-is _ _ tt told).0 in
    record { room = record { listed = yes.0; told = yes.1 } }
