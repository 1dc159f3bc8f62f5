-- `reading::kernel::Reader::pass_slice` meets its contract.
use mathlib.Core.Bool.{true≢false}
use mathlib.Core.Path.{◌∙◌, refl, sym}
use Rattle.reading.proofs.ReaderLaws.{begins-Decides, passes-no, passes-yes}
use Rattle.reading.proofs.kernel.Reader.pass_slice.Goals as goal

pub returns-then-not-starts_with : goal.returns-then-not-starts_with
returns-then-not-starts_with c =
    passes-no refl (λ s. true≢false (sym ((begins-Decides c.args.src.now c.args.self.now.at c.args.self.now.text.now c.starts_with.result c.starts_with.ensures.value).1 s) ∙ c.if-not-starts_with.true))

pub returns : goal.returns
returns c =
    passes-yes refl ((begins-Decides c.args.src.now c.args.self.now.at c.args.self.now.text.now c.starts_with.result c.starts_with.ensures.value).0 c.if-not-starts_with.false) refl
