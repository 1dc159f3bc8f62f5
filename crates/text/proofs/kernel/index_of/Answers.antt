-- `text::kernel::index_of` meets its contract.
use borrow.Author.Tests.{eq-eqb, ne_eqb, tests}
use Rattle.std.proofs.Common.{◌≡◌, ◌≢◌, ◌∙◌, refl, rules, sym}
use Rattle.std.proofs.lemmas.Iterator.{IsFirst-from_position, YieldsList-from_slice, index_from_first}
use native.Mathlib.Omega.{arith}
use Rattle.text.specs.Pieces.{index}
use Rattle.text.proofs.kernel.index_of.Goals as goal

pub returns-clause-value : goal.returns-clause-value
unfolding index
returns-clause-value c =
    let b = c.args.b in
    let first = IsFirst-from_position _ _ c.position.result (λ x. x ≡ b) (λ x. x ≢ b) c.position.ensures.ran (YieldsList-from_slice c.args.s.now cc) (λ x q k. search (rules, tests)) (λ x q k. search (rules, tests)) in
    c.unwrap_or.ensures ∙ sym (index_from_first (index b) (λ x. x ≡ b) (λ x. x ≢ b) refl (λ x xs e. rw (eq-eqb x b e)) (λ x xs n. rw (ne_eqb x b n) (omega arith)) c.args.s.now c.position.result first)
