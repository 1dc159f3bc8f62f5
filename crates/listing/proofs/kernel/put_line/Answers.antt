-- `listing::kernel::put_line` meets its contract.
use Prim.Native.Nat.{ℕ, ◌%◌, ◌/◌}
use mathlib.Core.List.{List}
use Rattle.listing.specs.Listings.{flag_at, front_of, line_of}
use Rattle.listing.specs.Sheets.{weights_in}
use Rattle.listing.specs.declared.kernel.sheet.Sheet.{Sheet}
use Rattle.writing.proofs.WrittenLaws.{wrote-both}
use Rattle.listing.proofs.kernel.put_line.Goals as goal

-- the front of the line of an entry
abbrev front : Sheet → ℕ → List ℕ
front s e =
    front_of (e / s.bands2 / s.bands1 / s.points) (e / s.bands2 / s.bands1 % s.points) (e / s.bands2 % s.bands1) (e % s.bands2) (flag_at s.flags.now e)

pub returns : goal.returns
unfolding line_of
returns c =
    wrote-both (front c.args.sheet.now c.args.e) (weights_in c.args.sheet.now c.args.e) c.args.writer.now c.requires.room (rw c.flag_at-flag.ensures at c.put_front.ensures) c.put_weights.ensures
