-- `text::kernel::negative_whole` meets its contract.
use mathlib.Core.Path.{◌∙◌, sym}
use mir.Syntax.{w64}
use mir.Facts.{to_z-of_z}
use lib.IntN.{negsuc, ◌-ℤ◌}
use borrow.Author.Rules.{rules}
use Rattle.text.proofs.FieldLaws.{converted, negative-in}
use Rattle.text.proofs.kernel.negative_whole.Goals as goal

pub returns : goal.returns
returns c =
    let known : _ = negative-in c.args.n c.if-n-eq0.false c.in_ok-below.below (sym (converted c.try_from.result _ c.try_from.ensures) ∙ sym c.ok.ensures.value ∙ c.in_ok-below.was) in
    rw (to_z-of_z {w = w64} {z = c.in_ok-below.below} (search rules), to_z-of_z {w = w64} {z = negsuc 0 -ℤ c.in_ok-below.below} known.0) known.1
