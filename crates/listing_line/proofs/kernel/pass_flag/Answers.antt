-- `listing_line::kernel::pass_flag` meets its contract.
use lib.Dec.{eqb}
use lib.ListN.{get_or}
use mathlib.Core.List.{[], ◌∷◌, ◌++◌}
use mathlib.Core.Path.{◌∙◌, ◌≡◌, refl, sym}
use native.Mathlib.Omega.{arith}
use Rattle.listing.specs.Listings.{number}
use Rattle.reading.proofs.PassedLaws.{no-room}
use Rattle.reading.proofs.ReaderLaws.{passes-as, passes-both, passes-lost, passes-no}
use Rattle.listing_line.specs.Lines.{flag_here}
use Rattle.listing_line.proofs.LineLaws.{digit-one, digit-zero, two-bytes}
use Rattle.listing_line.proofs.kernel.pass_flag.Goals.{After-pass_byte, then-branch-eq48, else-branch-eq48}
use Rattle.listing_line.proofs.kernel.pass_flag.Goals as goal

-- the digit passed over is the flag's
digit : (c : After-pass_byte) → (c.if-branch-eq48.digit ∷ []) ++ (9 ∷ []) ≡ number (flag_here c.args.reader.now.text.now c.args.reader.now.at) 9
digit c =
    let e = c.in_ok-get.ensures.lookup.4 (omega arith) 0 in
    elim c.if-branch-eq48.branch [
      | then-branch-eq48 w ↦ rw w.digit-is (digit-zero c.args.reader.now.text.now c.args.reader.now.at (sym e ∙ w.if-branch-eq48.true))
      | else-branch-eq48 w ↦ rw w.digit-is (digit-one c.args.reader.now.text.now c.args.reader.now.at (λ z. w.if-branch-eq48.false (e ∙ z)))
    ]

pub returns-in_err-get : goal.returns-in_err-get
unfolding flag_here
returns-in_err-get c =
    rw c.from_residual.ensures
    (passes-no refl
    (no-room _ c.args.reader.now.at c.args.reader.now.text.now (omega (arith, c.in_err-get.ensures.lookup.3, two-bytes (eqb (get_or c.args.reader.now.text.now c.args.reader.now.at 0) 48))) c.args.reader.now.within))

pub returns-in_err-pass_byte : goal.returns-in_err-pass_byte
returns-in_err-pass_byte c =
    rw c.from_residual-in_err-pass_byte.ensures
    (passes-as (digit (goal.at.returns-in_err-pass_byte c).After-pass_byte) (passes-lost _ (9 ∷ []) (rw c.in_err-pass_byte.was at c.pass_byte.ensures)))

pub returns : goal.returns
returns c =
    passes-as (digit (goal.at.returns c).After-pass_byte) (passes-both _ (9 ∷ []) (rw c.in_ok-pass_byte.was at c.pass_byte.ensures) c.pass_byte-2.ensures)
