-- `listing_read::kernel::restore::restore_weights` meets its contract.
use Prim.Native.Nat.{◌+◌, ◌*◌}
use lib.Ieee.{nan}
use mathlib.Core.Path.{◌≡◌}
use Rattle.list_laws.specs.Columns.{InColumn}
use Rattle.list_laws.specs.Matrix.{Replaced}
use Rattle.listing_line.specs.Lines.{weight_here}
use Rattle.listing_read.proofs.kernel.restore.restore_weights.Given as goal

abbrev pub invariant-loop-c : goal.invariant-loop-c
invariant-loop-c l =
    Replaced nan l.cells (InColumn l.c l.e) (λ c k. weight_here l.initial.reader.text.now (l.initial.reader.at + 17 * c)) l.initial.weights l.weights
    × (l.reader.at ≡ l.initial.reader.at + 17 * l.c) × (l.reader.text ≡ l.initial.reader.text)
