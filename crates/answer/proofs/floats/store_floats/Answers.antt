-- `answer::floats::store_floats` meets its contract.
use Prim.Native.Nat.{ℕ}
use lib.Ieee.{binary64, of_bits}
use lib.ListN.{get_or, length, take}
use mathlib.Core.Path.{◌∙◌, ◌≡◌, ap, sym}
use native.Mathlib.Omega.{arith}
use Rattle.answer.specs.Texts.{floats_of}
use Rattle.list_laws.proofs.FillLaws.{fill-next, fill_none}
use Rattle.list_laws.specs.Lists.{tabulate}
use Rattle.answer.proofs.floats.store_floats.Goals as goal

pub loop-k-init : goal.loop-k-init
loop-k-init c = fill_none (λ k. of_bits binary64 (get_or c.args.patterns.now k 0)) c.args.out.now

pub loop-k-preserved : goal.loop-k-preserved
loop-k-preserved c =
    fill-next (λ k. of_bits binary64 (get_or c.args.patterns.now k 0)) c.loop-k.out c.loop-k.k _ (omega arith) c.loop-k.invariant c.float_of.ensures

pub returns : goal.returns
unfolding floats_of
returns c =
    let e : c.loop-k.k ≡ length c.args.patterns.now = omega arith in
    ap (λ (n : ℕ). take n c.loop-k.out) (sym e) ∙ (c.loop-k.invariant ∙ ap (λ (n : ℕ). tabulate n (λ k. of_bits binary64 (get_or c.args.patterns.now k 0))) e)
