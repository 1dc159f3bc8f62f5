-- `writing::kernel::Writer::put_decimal` meets its contract.
use lib.ListN.{take}
use mathlib.Core.List.{[], ◌∷◌}
use mathlib.Core.Path.{◌∙◌, ◌≡◌, sym}
use native.Mathlib.Omega.{arith}
use Rattle.text.proofs.SpelledLaws.{decimal-is}
use Rattle.text.specs.Spelled.{decimal}
use Rattle.writing.proofs.WrittenLaws.{room-first, room-next, room_as, wrote-both, wrote_as}
use Rattle.writing.proofs.kernel.Writer.put_decimal.Goals.{After-decimal-k}
use Rattle.writing.proofs.kernel.Writer.put_decimal.Goals as goal

-- the digits are the number's
spelled : (c : After-decimal-k) → take c.decimal-k.result c.decimal-k.new.out ≡ decimal c.args.n
spelled c = c.decimal-k.ensures.digits ∙ decimal-is c.args.n c.decimal-k.result (omega arith) c.decimal-k.ensures.len

pub put_slice-requires : goal.put_slice-requires
put_slice-requires c =
    room_as c.args.self.now (sym (spelled (goal.at.put_slice-requires c).After-decimal-k)) (room-first (decimal c.args.n) (c.args.end ∷ []) c.args.self.now c.requires)

pub put_byte-requires : goal.put_byte-requires
put_byte-requires c =
    room-next (decimal c.args.n) (c.args.end ∷ []) c.args.self.now c.requires (wrote_as (spelled (goal.at.put_byte-requires c).After-decimal-k) c.put_slice.ensures)

pub returns : goal.returns
returns c =
    wrote-both (decimal c.args.n) (c.args.end ∷ []) c.args.self.now c.requires (wrote_as (spelled (goal.at.returns c).After-decimal-k) c.put_slice.ensures) c.put_byte.ensures
