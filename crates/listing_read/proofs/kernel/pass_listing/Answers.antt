-- `listing_read::kernel::pass_listing` meets its contract: before each turn the header and the lines before were passed over.
use Prim.Native.Nat.{◌+◌}
use mathlib.Core.Path.{◌∙◌, ◌≡◌, ap, refl, sym}
use native.Mathlib.Omega.{arith}
use Rattle.listing.specs.Listings.{header}
use Rattle.listing_read.specs.Restored.{next_place}
use Rattle.listing_read.proofs.RestoredLaws.{first-place, judged-first, judged-lost, judged-next, listed-is, next_place_lem}
use Rattle.reading.proofs.ReaderLaws.{passes-as}
use Rattle.listing_read.proofs.kernel.pass_listing.Goals as goal

pub returns-in_err-pass_slice : goal.returns-in_err-pass_slice
unfolding header
returns-in_err-pass_slice c =
    rw c.from_residual.ensures
    (passes-as (sym (listed-is c.args.tested.form.points c.args.tested.form.bands1 c.args.tested.form.bands2 c.args.tested.form.channels c.args.cells c.args.reader.now.text.now))
    (judged-lost c.args.tested.form.points c.args.tested.form.bands1 c.args.tested.form.bands2 c.args.tested.form.channels c.args.cells c.args.reader.now.text.now c.requires.0 refl 0 (omega arith)
    (judged-first c.args.tested.form.points c.args.tested.form.bands1 c.args.tested.form.bands2 c.args.tested.form.channels c.args.cells c.args.reader.now.text.now c.requires.0 refl (rw c.in_err-pass_slice.was at c.pass_slice.ensures))))

pub loop-entry-init : goal.loop-entry-init
unfolding header
loop-entry-init c = (
  first-place c.args.tested.form.points c.args.tested.form.bands1 c.args.tested.form.bands2 c.args.tested.formed.0 c.args.tested.formed.1 c.args.tested.formed.2,
  judged-first c.args.tested.form.points c.args.tested.form.bands1 c.args.tested.form.bands2 c.args.tested.form.channels c.args.cells c.args.reader.now.text.now c.requires.0 refl (rw c.in_ok-pass_slice.was at c.pass_slice.ensures),
)

pub returns-in_err-pass_line : goal.returns-in_err-pass_line
returns-in_err-pass_line c =
    rw c.from_residual-in_err-pass_line.ensures
    (passes-as (sym (listed-is c.args.tested.form.points c.args.tested.form.bands1 c.args.tested.form.bands2 c.args.tested.form.channels c.args.cells c.args.reader.now.text.now))
    (judged-lost c.args.tested.form.points c.args.tested.form.bands1 c.args.tested.form.bands2 c.args.tested.form.channels c.args.cells c.args.reader.now.text.now c.requires.0 refl (c.loop-entry._entry + 1) (omega arith)
    (judged-next c.args.tested.form.points c.args.tested.form.bands1 c.args.tested.form.bands2 c.args.tested.form.channels c.args.cells c.args.reader.now.text.now c.requires.0 refl c.loop-entry._entry (omega arith) c.loop-entry.invariant.1
    (rw (c.loop-entry.invariant.0, c.in_err-pass_line.was) at c.pass_line.ensures))))

pub loop-entry-preserved : goal.loop-entry-preserved
loop-entry-preserved c = (
  c.next_place-place.ensures ∙ (ap (next_place c.args.tested.form.points c.args.tested.form.bands1 c.args.tested.form.bands2) c.loop-entry.invariant.0 ∙ next_place_lem c.args.tested.form.points c.args.tested.form.bands1 c.args.tested.form.bands2 c.args.tested.formed.0 c.args.tested.formed.1 c.args.tested.formed.2 c.loop-entry._entry),
  judged-next c.args.tested.form.points c.args.tested.form.bands1 c.args.tested.form.bands2 c.args.tested.form.channels c.args.cells c.args.reader.now.text.now c.requires.0 refl c.loop-entry._entry (omega arith) c.loop-entry.invariant.1
      (rw (c.loop-entry.invariant.0, c.in_ok-pass_line.was) at c.pass_line.ensures),
)

pub returns : goal.returns
returns c =
    let e : c.loop-entry._entry ≡ c.args.cells = omega arith in
    passes-as (sym (listed-is c.args.tested.form.points c.args.tested.form.bands1 c.args.tested.form.bands2 c.args.tested.form.channels c.args.cells c.args.reader.now.text.now)) (rw e at c.loop-entry.invariant.1)
