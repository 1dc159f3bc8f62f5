-- `sections::kernel::Lines::fill_rows` meets its contract.
use Prim.Native.Nat.{◌+◌, ◌-◌, ◌≤◌}
use mathlib.Core.Path.{◌≡◌, refl, ap, ◌∙◌}
use native.Mathlib.Omega.{arith}
use lib.ListN.{length, drop, length-drop}
use lib.Seq.{length-take-le}
use Rattle.sections.specs.Left.{parts}
use Rattle.sections.specs.Lines.{values, told}
use Rattle.sections.proofs.LineLaws.{joined-nil, place-kept, row-placed, rows_end, rows-broken, rows_row, values_fit}
use Rattle.sections.proofs.kernel.Lines.fill_rows.Given.{Over}
use Rattle.sections.proofs.kernel.Lines.fill_rows.Goals.{After-read}
use Rattle.sections.proofs.kernel.Lines.fill_rows.Goals as goal

pub loop-fields-init : goal.loop-fields-init
loop-fields-init g c = (omega arith, omega arith, refl, joined-nil g.T.Field.spelled _)

-- the row that is lent lies in the buffer, and has n places
fits : (g : Over) (c : After-read g) → c.loop-fields.count + c.args.n ≤ length c.loop-fields.out
fits g c =
    omega (arith, c.loop-fields.invariant.0, c.in-Some.ensures.within, ap (λ (t : _). length t.now) c.loop-fields.invariant.2, c.loop-fields.auto.out, c.requires)

long : (g : Over) (c : After-read g) → length c.read.new.row ≡ c.args.n
long g c =
    let places : c.loop-fields.count + c.args.n - c.loop-fields.count ≡ c.args.n = omega arith in
    c.read.auto.row ∙ (length-take-le (c.loop-fields.count + c.args.n - c.loop-fields.count) (drop c.loop-fields.count c.loop-fields.out) (omega (arith, fits g c, length-drop c.loop-fields.count c.loop-fields.out)) ∙ places)

-- what the fields are, as n values
told-row : (g : Over) (c : After-read g) → values g.T.Field.spelled c.args.n (parts c.in-Some.fields) ≡ told c.read.result c.read.new.row
told-row g c = rw (long g c) at c.read.ensures

pub returns-in_err-read-clause-section : goal.returns-in_err-read-clause-section
returns-in_err-read-clause-section g c =
    rw c.from_residual.ensures
    (rows-broken g.T.Field.spelled c.args.tag.now c.args.n _ _ c.loop-fields.out c.loop-fields.count c.loop-fields.invariant.3 _ _ c.in-Some.ensures.line
    (rw c.in_err-read.was at (told-row g (goal.at.returns-in_err-read-clause-section g c).After-read)))

pub loop-fields-preserved : goal.loop-fields-preserved
loop-fields-preserved g c =
    let at = (goal.at.loop-fields-preserved g c).After-read in
    let row = rw c.in_ok-read.was at (told-row g at) in (
      omega (arith, c.loop-fields.invariant.0, c.in-Some.ensures.bytes, values_fit g.T.Field.spelled c.args.n (parts c.in-Some.fields) _ row),
      omega (arith, fits g at, c.loop-fields.auto.out),
      c.tagged.ensures.same ∙ c.loop-fields.invariant.2,
      rows_row g.T.Field.spelled c.args.tag.now c.args.n _ _ c.loop-fields.out c.loop-fields.count c.loop-fields.invariant.3 _ _ c.in-Some.ensures.line _
          (place-kept g.T.Field.spelled c.loop-fields.out c.read.new.row c.loop-fields.count c.args.n (fits g at) (long g at))
          (row-placed g.T.Field.spelled c.loop-fields.out c.read.new.row c.loop-fields.count c.args.n (fits g at) (long g at) _ (rw c.in_ok-read.was at c.read.ensures)),
    )

pub returns-clause-section : goal.returns-clause-section
returns-clause-section g c =
    rw c.in_default.ensures.stays (rows_end g.T.Field.spelled c.args.tag.now c.args.n _ _ c.loop-fields.out c.loop-fields.count c.loop-fields.invariant.3 c.in_default.ensures.line)
