-- `triplet_addresses::normal::on_grid` meets its contract.
use lib.ListN.{length}
use mathlib.Core.Path.{◌≡◌, ◌∙◌}
use Rattle.std.proofs.Common.{rules}
use Rattle.triplet_addresses.proofs.SumLaws.{points-on-grid}
use Rattle.triplet_addresses.proofs.normal.on_grid.Goals as goal

pub returns : goal.returns
returns c =
    let e : length c.args.triplet ≡ 3 = search rules in
    c.grid_points_ok.ensures ∙ points-on-grid c.args.p c.args.triplet e
