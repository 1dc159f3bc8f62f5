-- `averaging_walk::kernel::flags::row_has_zero` meets its contract.
use mathlib.Core.Path.{◌∙◌, ap, sym}
use native.Mathlib.Omega.{arith}
use lib.IntN.{pos}
use lib.ListN.{length}
use lib.Seq.{take-length}
use Rattle.std.specs.List.{list_any}
use Rattle.std.specs.Ordering.{int_eq}
use Rattle.averaging_flags.proofs.FlagLaws.{row-zero, equal-zero}
use Rattle.averaging_walk.proofs.kernel.flags.row_has_zero.Goals as goal

pub returns : goal.returns
returns c =
    let row = c.args.row.now in
    c.contains.ensures.value
    ∙ ap (list_any (λ z. int_eq z (pos 0))) (sym (take-length row))
    ∙ row-zero row (λ z. int_eq z (pos 0)) equal-zero 0 (length row) (omega arith)
