-- `triplet_addresses::set_relative_grid_address` meets its contract.
use Rattle.triplet_addresses.specs.Copies.{copy_questions}
use Rattle.ask.specs.Ask.{AllYes, Question}
use Rattle.ask.proofs.AskLaws.{all_yes}
use Rattle.ask.proofs.RefusalLaws.{given-is}
use Rattle.question_grids.proofs.StepLaws.{product-yes}
use Rattle.question_grids.proofs.TableLaws.{table-triples}
use mathlib.Core.List.{List}
use lib.ListN.{length}
use mir.Syntax.{w64}
use mir.ValLaws.{to_z-of_z}
use native.Mathlib.Omega.{arith}
use Rattle.triplet_addresses.proofs.set_relative_grid_address.Goals.{In_ok-tp, Start}
use Rattle.triplet_addresses.proofs.set_relative_grid_address.Goals as goal

abbrev asked : Start → List Question
asked s = copy_questions s.args.relative_grid_address.now s.args.tp_type (length s.args.out.now)

told : (c : In_ok-tp) → AllYes (asked (goal.at.In_ok-tp c).Start)
told c =
    let n : _ = rw (to_z-of_z w64 c.args.tp_type c.ranges.tp_type, c.in_ok-tp.was) at c.ask_copies.ensures in
    all_yes (asked (goal.at.In_ok-tp c).Start) (omega arith, (omega arith, (omega arith, tt))) (given-is _ _ _ n).0

pub invariant_of-table : goal.invariant_of-table
invariant_of-table c = record { tested = table-triples c.args.relative_grid_address.now (told (goal.at.invariant_of-table c).In_ok-tp).0 }

pub fill_copies-requires : goal.fill_copies-requires
fill_copies-requires c =
    product-yes 2 (length c.args.relative_grid_address.now) (length c.args.out.now) (told (goal.at.fill_copies-requires c).In_ok-tp).1.1.0
