-- `test_load::fill_frequencies` meets its contract.
use mathlib.Core.Path.{◌∙◌, ◌≡◌, ap}
use lib.ListN.{length}
use Prim.Native.Nat.{ℕ, ◌+◌}
use Rattle.test_load.proofs.LoadLaws.{after-after, goes_on}
use Rattle.test_load.specs.Load.{after, frequencies_from}
use Rattle.test_load.proofs.fill_frequencies.Goals as goal

pub returns-clause-frequencies2_after : goal.returns-clause-frequencies2_after
returns-clause-frequencies2_after c =
    c.fill-second.ensures.frequencies_after
    ∙ ap (λ (x : ℕ). frequencies_from x 0 (length c.args.frequencies2.now)) c.fill-first.ensures.value
    ∙ goes_on c.args.start (length c.args.frequencies1.now) (length c.args.frequencies2.now)

pub returns-clause-frequency_points_after : goal.returns-clause-frequency_points_after
returns-clause-frequency_points_after c =
    let n1 = length c.args.frequencies1.now in
    let n2 = length c.args.frequencies2.now in
    let n3 = length c.args.frequency_points.now in
    let second : c.fill-second.result ≡ after c.args.start (n1 + n2) = c.fill-second.ensures.value ∙ ap (λ (x : ℕ). after x n2) c.fill-first.ensures.value ∙ after-after c.args.start n1 n2 in
    c.fill.ensures.frequencies_after ∙ ap (λ (x : ℕ). frequencies_from x 0 n3) second ∙ goes_on c.args.start (n1 + n2) n3
