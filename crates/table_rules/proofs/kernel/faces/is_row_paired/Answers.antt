-- `table_rules::kernel::faces::is_row_paired` meets its contract.
use mathlib.Core.Path.{refl}
use Rattle.table_rules.specs.Faces.{is_row_paired}
use Rattle.table_rules.proofs.kernel.faces.is_row_paired.Goals as goal

pub returns : goal.returns
unfolding is_row_paired
returns c =
    rw (c.is_paired.ensures, c.is_paired-2.ensures, c.is_paired-3.ensures) refl
