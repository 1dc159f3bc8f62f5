-- `writing::kernel::Writer::put_slice` meets its contract.
use mathlib.Core.Path.{◌∙◌, ap, refl}
use mathlib.Core.List.{List}
use Prim.Native.Nat.{ℕ, ◌+◌, ◌-◌}
use lib.ListN.{length}
use borrow.Rule.Slice.PartMut.{put_mid}
use Rattle.writing.proofs.WrittenLaws.{written_part}
use Rattle.writing.proofs.kernel.Writer.put_slice.Goals as goal

pub returns : goal.returns
returns c =
    let at : ℕ = c.args.self.now.len in
    record {
      same-buffer = refl;
      ends = refl;
      content =
          ap (λ (l : List ℕ). put_mid at (at + length c.args.src.now - at) c.args.self.now.buffer.now l) c.copy_from_slice.ensures.after
          ∙ written_part at c.args.src.now c.args.self.now.buffer.now;
    }
