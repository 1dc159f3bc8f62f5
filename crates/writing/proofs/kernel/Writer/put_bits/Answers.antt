-- `writing::kernel::Writer::put_bits` meets its contract.
use lib.ListN.{take}
use mathlib.Core.List.{[], ◌∷◌}
use mathlib.Core.Path.{◌∙◌, ◌≡◌, sym}
use native.Mathlib.Omega.{arith}
use Rattle.text.proofs.SpelledLaws.{bits_is}
use Rattle.text.specs.Spelled.{hexadecimal}
use Rattle.writing.proofs.WrittenLaws.{room-first, room-next, room_as, wrote-both, wrote_as}
use Rattle.writing.proofs.kernel.Writer.put_bits.Goals.{After-hex-k}
use Rattle.writing.proofs.kernel.Writer.put_bits.Goals as goal

-- the digits are the number's
spelled : (c : After-hex-k) → take c.hex-k.result c.hex-k.new.out ≡ hexadecimal c.args.n
spelled c = c.hex-k.ensures.digits ∙ bits_is c.args.n c.hex-k.result (omega arith) c.hex-k.ensures.len

pub put_slice-requires : goal.put_slice-requires
put_slice-requires c =
    room_as c.args.self.now (sym (spelled (goal.at.put_slice-requires c).After-hex-k)) (room-first (hexadecimal c.args.n) (c.args.end ∷ []) c.args.self.now c.requires)

pub put_byte-requires : goal.put_byte-requires
put_byte-requires c =
    room-next (hexadecimal c.args.n) (c.args.end ∷ []) c.args.self.now c.requires (wrote_as (spelled (goal.at.put_byte-requires c).After-hex-k) c.put_slice.ensures)

pub returns : goal.returns
returns c =
    wrote-both (hexadecimal c.args.n) (c.args.end ∷ []) c.args.self.now c.requires (wrote_as (spelled (goal.at.returns c).After-hex-k) c.put_slice.ensures) c.put_byte.ensures
