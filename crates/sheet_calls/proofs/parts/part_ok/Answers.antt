-- `sheet_calls::parts::part_ok` meets its contract.
use mir.Syntax.{w64}
use mir.ValLaws.{to_z-of_z}
use Rattle.list_laws.proofs.SignedLaws.{le_z-zero}
use Rattle.sheet_calls.specs.Calls.{is_part}
use Rattle.sheet_calls.proofs.parts.part_ok.Goals as goal

pub returns : goal.returns
unfolding is_part
returns c =
    rw (c.magnitude-s.ensures, c.magnitude-e.ensures, to_z-of_z w64 c.args.start c.ranges.start, to_z-of_z w64 c.args.end c.ranges.end, le_z-zero c.args.start, le_z-zero c.args.end)
