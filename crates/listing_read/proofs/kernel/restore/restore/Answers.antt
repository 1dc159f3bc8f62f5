-- `listing_read::kernel::restore::restore` meets its contract: before each turn the flags and weights of the entries before are restored.
use Prim.Native.Nat.{◌+◌, ◌*◌, ◌≤◌}
use borrow.Author.Rules.{rules}
use lib.Ieee.{nan}
use lib.IntN.{pos}
use lib.ListN.{length, length-set}
use mathlib.Core.Path.{◌∙◌, ◌≡◌, ap, refl}
use mir.Syntax.{w8}
use mir.Val.{SFits}
use mir.ValLaws.{to_z-of_z}
use native.Mathlib.Omega.{arith}
use Rattle.list_laws.proofs.ColumnLaws.{columns-all, columns-next, columns-none}
use Rattle.list_laws.proofs.FillLaws.{fill-next, fill_none}
use Rattle.list_laws.proofs.MatrixLaws.{replaced-as}
use Rattle.listing_line.specs.Lines.{flag_here, numbers_of, weight_here}
use Rattle.reading.specs.Passed.{passed}
use Rattle.reading.proofs.ReaderLaws.{passes-found}
use Rattle.listing_read.specs.Restored.{flag_place, next_place, place_of, weight_place, weights_in}
use Rattle.listing_read.proofs.RestoredLaws.{first-place, line-room, next_place_lem, numbers-passed, start_first, start-next}
use Rattle.listing_read.proofs.kernel.restore.restore.Goals.{After-pass_numbers, In-loop-e}
use Rattle.listing_read.proofs.kernel.restore.restore.Goals as goal

-- the text has room for the entry's line
room : (c : In-loop-e) → flag_place c.args.tested.form.points c.args.tested.form.bands1 c.args.tested.form.bands2 c.args.tested.form.channels c.loop-e.e + 2 + 17 * c.args.tested.form.channels ≤ length c.args.text.now
room c =
    line-room c.args.tested.form.points c.args.tested.form.bands1 c.args.tested.form.bands2 c.args.tested.form.channels (length c.args.flags.now) c.args.text.now c.requires.text_value c.loop-e.e c.loop-e-test.true

-- behind the numbers stands the flag
found : (c : After-pass_numbers) → (c.pass_numbers.new.reader.at ≡ flag_place c.args.tested.form.points c.args.tested.form.bands1 c.args.tested.form.bands2 c.args.tested.form.channels c.loop-e.e) × (c.pass_numbers.new.reader.text.now ≡ c.args.text.now)
found c =
    let place : passed (numbers_of (place_of c.args.tested.form.points c.args.tested.form.bands1 c.args.tested.form.bands2 c.loop-e.e)) c.loop-e.reader.at c.loop-e.reader.text.now ≡ flag_place c.args.tested.form.points c.args.tested.form.bands1 c.args.tested.form.bands2 c.args.tested.form.channels c.loop-e.e =
    rw (c.loop-e.invariant.0, c.loop-e.invariant.1) (numbers-passed c.args.tested.form.points c.args.tested.form.bands1 c.args.tested.form.bands2 c.args.tested.form.channels (length c.args.flags.now) c.args.text.now c.requires.text_value c.loop-e.e c.loop-e-test.true) in (
      passes-found c.pass_numbers.result (rw c.loop-e.invariant.2 at c.pass_numbers.ensures) (omega (arith, place, line-room c.args.tested.form.points c.args.tested.form.bands1 c.args.tested.form.bands2 c.args.tested.form.channels (length c.args.flags.now) c.args.text.now c.requires.text_value c.loop-e.e c.loop-e-test.true, ap length c.loop-e.invariant.1)) ∙ place,
      ap (λ (t : _). t.now) c.pass_numbers.ensures.same-text ∙ c.loop-e.invariant.1,
    )

pub loop-e-init : goal.loop-e-init
loop-e-init c = (
  omega (arith, c.skip.ensures.at, c.new-reader.ensures.front, start_first c.args.tested.form.points c.args.tested.form.bands1 c.args.tested.form.bands2 c.args.tested.form.channels),
  ap (λ (t : _). t.now) (c.skip.ensures.text ∙ c.new-reader.ensures.text),
  first-place c.args.tested.form.points c.args.tested.form.bands1 c.args.tested.form.bands2 c.args.tested.formed.0 c.args.tested.formed.1 c.args.tested.formed.2,
  refl,
  fill_none (λ k. pos (flag_here c.args.text.now (flag_place c.args.tested.form.points c.args.tested.form.bands1 c.args.tested.form.bands2 c.args.tested.form.channels k))) c.args.flags.now,
  columns-none nan c.args.tested.form.channels (length c.args.flags.now) (λ r k. weight_here c.args.text.now (weight_place c.args.tested.form.points c.args.tested.form.bands1 c.args.tested.form.bands2 c.args.tested.form.channels r k)) c.args.weights.now,
)

pub loop-e-preserved : goal.loop-e-preserved
loop-e-preserved c =
    let f = found (goal.at.loop-e-preserved c).After-pass_numbers in (
      omega (arith, f.0, c.restore_weights.ensures.at, c.skip-in-loop-e.ensures.at, start-next c.args.tested.form.points c.args.tested.form.bands1 c.args.tested.form.bands2 c.args.tested.form.channels c.loop-e.e),
      ap (λ (t : _). t.now) (c.restore_weights.ensures.text ∙ c.skip-in-loop-e.ensures.text) ∙ f.1,
      c.next_place-place.ensures ∙ (ap (next_place c.args.tested.form.points c.args.tested.form.bands1 c.args.tested.form.bands2) c.loop-e.invariant.2 ∙ next_place_lem c.args.tested.form.points c.args.tested.form.bands1 c.args.tested.form.bands2 c.args.tested.formed.0 c.args.tested.formed.1 c.args.tested.formed.2 c.loop-e.e),
      simp length-set c.loop-e.invariant.3,
      fill-next (λ k. pos (flag_here c.args.text.now (flag_place c.args.tested.form.points c.args.tested.form.bands1 c.args.tested.form.bands2 c.args.tested.form.channels k))) c.loop-e.flags c.loop-e.e _ (omega (arith, c.loop-e.invariant.3, c.loop-e-test.true)) c.loop-e.invariant.4
          ((let h : SFits w8 c.flag_at.result = search rules in to_z-of_z w8 c.flag_at.result h) ∙ (rw (f.1, f.0) at c.flag_at.ensures)),
      columns-next nan c.args.tested.form.channels (length c.args.flags.now) (λ r k. weight_here c.args.text.now (weight_place c.args.tested.form.points c.args.tested.form.bands1 c.args.tested.form.bands2 c.args.tested.form.channels r k)) c.loop-e.e c.args.weights.now c.loop-e.weights _ c.loop-e.invariant.5
          (replaced-as c.restore_weights.ensures.value (λ r k h. rw (c.skip-in-loop-e.ensures.text, c.skip-in-loop-e.ensures.at, f.1, f.0, h.1) refl)),
    )

pub returns-clause-weights_after : goal.returns-clause-weights_after
unfolding weights_in
returns-clause-weights_after c =
    let e : c.loop-e.e ≡ length c.args.flags.now = omega arith in
    columns-all nan c.args.tested.form.channels (length c.args.flags.now) (λ r k. weight_here c.args.text.now (weight_place c.args.tested.form.points c.args.tested.form.bands1 c.args.tested.form.bands2 c.args.tested.form.channels r k)) c.args.weights.now c.loop-e.weights c.requires.counts.1 (rw e at c.loop-e.invariant.5)
