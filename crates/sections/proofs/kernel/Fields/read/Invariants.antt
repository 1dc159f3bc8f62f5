-- `sections::kernel::Fields::read` meets its contract: the values stored, and what the fields that are left give, are the line's.
use Prim.Native.Nat.{◌-◌}
use mathlib.Core.Path.{◌≡◌}
use lib.ListN.{length, take}
use Rattle.text.specs.Pieces.{split_from}
use Rattle.sections.specs.Lines.{values, front}
use Rattle.sections.proofs.kernel.Fields.read.Given as goal

abbrev pub invariant-loop-value : goal.invariant-loop-value
invariant-loop-value g l =
    front (take l.value-index l.row) (values g.T.Field.spelled (length l.row - l.value-index) (split_from 9 l.line l.from)) ≡ values g.T.Field.spelled (length l.row) (split_from 9 l.fn.self.line.now l.fn.self.next)
