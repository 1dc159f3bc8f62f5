-- `listing_read::kernel::restore::restore` meets its contract: before each turn the flags and weights of the entries before are restored.
use lib.Ieee.{nan}
use lib.IntN.{pos}
use lib.ListN.{length, take}
use mathlib.Core.Path.{◌≡◌}
use Rattle.list_laws.specs.Columns.{BeforeColumn}
use Rattle.list_laws.specs.Lists.{tabulate}
use Rattle.list_laws.specs.Matrix.{Replaced}
use Rattle.listing_line.specs.Lines.{flag_here, weight_here}
use Rattle.listing_read.specs.Restored.{flag_place, line_start, place_of, weight_place}
use Rattle.listing_read.proofs.kernel.restore.restore.Given as goal

abbrev pub invariant-loop-e : goal.invariant-loop-e
invariant-loop-e l =
    (l.reader.at ≡ line_start l.form.points l.form.bands1 l.form.bands2 l.form.channels l.e) × (l.reader.text.now ≡ l.text) × (l.place ≡ place_of l.form.points l.form.bands1 l.form.bands2 l.e) × (length l.flags ≡ length l.initial.flags)
    × (take l.e l.flags ≡ tabulate l.e (λ k. pos (flag_here l.text (flag_place l.form.points l.form.bands1 l.form.bands2 l.form.channels k))))
    × Replaced nan (length l.initial.flags) (BeforeColumn l.form.channels l.e) (λ c k. weight_here l.text (weight_place l.form.points l.form.bands1 l.form.bands2 l.form.channels c k)) l.initial.weights l.weights
