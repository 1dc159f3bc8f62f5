-- `question_grids::kernel::grid::dense_map_ok` meets its contract.
use borrow.Author.Tests.{le-ltb, lt-ltb}
use lib.IntN.{ℤ}
use lib.ListN.{length, take}
use lib.Seq.{get_or-take, length-take-le}
use lib.Signed.{lt_z}
use mathlib.Core.List.{List}
use mathlib.Core.Path.{◌∙◌, ◌≡◌, ap}
use mir.Syntax.{w64}
use mir.Val.{SFits}
use mir.ValLaws.{to_z-of_z}
use native.Mathlib.Omega.{arith}
use Prim.Native.Nat.{ℕ, ◌+◌, ◌-◌, ◌<◌}
use Rattle.std.proofs.Common.{rules, pos, refl}
use Rattle.list_laws.specs.Lists.{all_below, at}
use Rattle.list_laws.proofs.ChainLaws.{all-ext}
use Rattle.question_grids.specs.Grids.{is_dense_map}
use Rattle.question_grids.proofs.kernel.grid.dense_map_ok.Goals as goal

-- the first values of a list, and one after them, rise as they do in the list
rising-part : (l : List ℤ) (n : ℕ) → n < length l
    → all_below (length (take (n + 1) l) - 1) (λ k. lt_z (at (take (n + 1) l) k) (at (take (n + 1) l) (k + 1))) ≡ all_below n (λ k. lt_z (at l k) (at l (k + 1)))
rising-part l n h =
    let size : length (take (n + 1) l) - 1 ≡ n = omega (arith, length-take-le (n + 1) l (omega (arith, h))) in
    ap (λ (m : ℕ). all_below m (λ k. lt_z (at (take (n + 1) l) k) (at (take (n + 1) l) (k + 1)))) size
    ∙ all-ext n _ _ (λ k below. rw (get_or-take (n + 1) l k (pos 0) (omega (arith, below)), get_or-take (n + 1) l (k + 1) (pos 0) (omega (arith, below))) refl)

pub returns-then-n-gp_map : goal.returns-then-n-gp_map
unfolding is_dense_map
returns-then-n-gp_map c =
    let first : SFits w64 (at c.args.gp_map.now 0) = search rules in
    let last : SFits w64 (at c.args.gp_map.now c.args.n) = search rules in
    let rises : _ = c.all_rising.ensures ∙ rising-part c.args.gp_map.now c.args.n c.if-n-gp_map.true in
    rw (lt-ltb _ _ c.if-n-gp_map.true) (cc (to_z-of_z w64 (at c.args.gp_map.now 0) first, to_z-of_z w64 (at c.args.gp_map.now c.args.n) last, c.is_nat.ensures, c.is_nat-then-n-gp_map.ensures, rises))

pub returns-else-n-gp_map : goal.returns-else-n-gp_map
unfolding is_dense_map
returns-else-n-gp_map c =
    rw (le-ltb _ _ c.if-n-gp_map.false)
