-- `reading::kernel::Reader::pass_byte` meets its contract.
use mathlib.Core.List.{[], ◌∷◌}
use mathlib.Core.Path.{sym, refl, ◌∙◌}
use native.Mathlib.Omega.{arith}
use Rattle.reading.proofs.PassedLaws.{no-room, stand-byte, stand-one}
use Rattle.reading.proofs.ReaderLaws.{passes-no, passes-yes}
use Rattle.reading.proofs.kernel.Reader.pass_byte.Goals as goal

pub returns-in_err-get : goal.returns-in_err-get
returns-in_err-get c =
    rw c.from_residual.ensures (passes-no refl (no-room (c.args.b ∷ []) c.args.self.now.at c.args.self.now.text.now (omega (arith, c.in_err-get.ensures.lookup.3)) c.args.self.now.within))

pub returns-then-branch-b : goal.returns-then-branch-b
returns-then-branch-b c =
    passes-no refl (λ s. c.if-branch-b.true (c.in_ok-get.ensures.lookup.4 (omega arith) 0 ∙ stand-byte c.args.b [] c.args.self.now.at c.args.self.now.text.now s))

pub returns : goal.returns
returns c =
    passes-yes refl (stand-one c.args.b c.args.self.now.at c.args.self.now.text.now c.in_ok-get.ensures.lookup.3.0 (sym (c.in_ok-get.ensures.lookup.4 (omega arith) 0) ∙ c.if-branch-b.false)) refl
