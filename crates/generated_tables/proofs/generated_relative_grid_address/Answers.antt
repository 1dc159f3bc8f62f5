-- The four tables are the numbers in order.
use lib.IntN.{pos}
use lib.ListN.{get_or}
use lib.Seq.{ext_get_or}
use mathlib.Core.Path.{◌≡◌, ◌∙◌, sym}
use native.Mathlib.Omega.{arith}
use Prim.Native.Nat.{◌<◌}
use Rattle.std.proofs.Common.{rules, slice_index_or}
use Rattle.list_laws.proofs.FillLaws.{length-tabulate, tabulate-at}
use Rattle.list_laws.specs.Lists.{tabulate}
use Rattle.generated_tables.specs.Numbers.{number_of}
use Rattle.generated_tables.proofs.NumberLaws.{numbers-are}
use Rattle.generated_tables.proofs.generated_relative_grid_address.Goals as goal

pub returns : goal.returns
returns c =
    let items : _ = c.from_fn.ensures.items in
    ext_get_or (pos 0) c.from_fn.result (tabulate 1152 number_of) (items.long ∙ sym (length-tabulate 1152 number_of))
    (λ i b.
    let within : i < 1152 = omega (arith, items.long, b) in
    let called : _ = (items.at i (pos 0) within).2 in
    let is : slice_index_or c.from_fn.result i (pos 0) ≡ number_of i = search rules in
    is ∙ sym (tabulate-at 1152 number_of (pos 0) i within))
    ∙ numbers-are
