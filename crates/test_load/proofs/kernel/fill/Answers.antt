-- `test_load::kernel::fill` meets its contract.
use lib.ListN.{length}
use mathlib.Core.Path.{◌∙◌, ◌≡◌, ap, sym}
use native.Mathlib.Numerals.{add-one}
use native.Mathlib.Omega.{arith}
use Prim.Native.Nat.{suc}
use Rattle.list_laws.proofs.FillLaws.{front-all, front-next, front-none}
use Rattle.test_load.proofs.LoadLaws.{after_none, after_next}
use Rattle.test_load.specs.Load.{next, after, frequency, frequency_at, frequencies_from}
use Rattle.test_load.proofs.kernel.fill.Invariants.{made}
use Rattle.test_load.proofs.kernel.fill.Goals as goal

pub loop-entry-init : goal.loop-entry-init
loop-entry-init c =
    (front-none (made c.args.x) c.args.frequencies.now, after_none c.args.x)

pub loop-entry-preserved : goal.loop-entry-preserved
loop-entry-preserved c =
    let i = c.loop-entry.entry-index in
    let step : c.next-last.result ≡ after c.args.x (suc i) = c.next-last.ensures ∙ ap next c.loop-entry.invariant.1 ∙ after_next c.args.x i in (
      rw c.loop-entry.invariant.0 (front-next (made c.args.x) c.args.frequencies.now i c.frequency.result (omega arith) (c.frequency.ensures ∙ ap frequency step ∙ ap (frequency_at c.args.x) (omega arith))),
      step ∙ ap (after c.args.x) (sym (add-one i)),
    )

pub returns-clause-frequencies_after : goal.returns-clause-frequencies_after
unfolding frequencies_from
returns-clause-frequencies_after c =
    let e : length c.args.frequencies.now ≡ c.loop-entry.entry-index = omega arith in
    rw e (c.loop-entry.invariant.0 ∙ front-all (made c.args.x) c.args.frequencies.now c.loop-entry.entry-index e)
