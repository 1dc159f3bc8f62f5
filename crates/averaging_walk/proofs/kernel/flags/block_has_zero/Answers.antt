-- `averaging_walk::kernel::flags::block_has_zero` meets its contract: no row before r has a 0.
use mathlib.Core.Path.{◌≡◌, sym, ◌∙◌, ap}
use Prim.Native.Nat.{ℕ, ◌+◌, ◌-◌, ◌*◌}
use native.Mathlib.Omega.{arith}
use Rattle.averaging_flags.specs.Flags.{row_has_zero}
use Rattle.averaging_flags.proofs.FlagLaws.{zero-none, zero-next, zero-at}
use Rattle.averaging_walk.proofs.RowLaws.{part-zero}
use Rattle.averaging_walk.proofs.kernel.flags.block_has_zero.Goals.{After-row_has_zero}
use Rattle.averaging_walk.proofs.kernel.flags.block_has_zero.Goals as goal

-- the answer of row r
row : (c : After-row_has_zero) → row_has_zero c.args.block.now.matrix.now (c.loop-r.r * c.args.block.now.n + c.args.block.now.left) (c.args.block.now.right - c.args.block.now.left) ≡ c.row_has_zero.result
row c =
    let b = c.args.block.now in
    let wide = b.right - b.left in
    sym
    (c.row_has_zero.ensures ∙ (λ i. row_has_zero (c.row.ensures.entries i) 0 (c.row.ensures.width i))
    ∙ part-zero b.matrix.now (c.loop-r.r * b.n + b.left) wide wide (omega arith))

pub loop-r-init : goal.loop-r-init
loop-r-init c = zero-none _ _ _ _ _

pub returns-then-row_has_zero : goal.returns-then-row_has_zero
returns-then-row_has_zero c =
    let top = c.args.block.now.top in
    let wide = c.args.block.now.right - c.args.block.now.left in
    sym
    (zero-at c.args.block.now.matrix.now c.args.block.now.n top c.args.block.now.left wide (c.args.block.now.bottom - top) (c.loop-r.r - top) (omega arith)
    (ap (λ (x : ℕ). row_has_zero c.args.block.now.matrix.now (x * c.args.block.now.n + c.args.block.now.left) wide) {x = top + (c.loop-r.r - top)} {y = c.loop-r.r} (omega arith)
    ∙ row (goal.at.returns-then-row_has_zero c).After-row_has_zero ∙ c.if-row_has_zero.true))

pub loop-r-preserved : goal.loop-r-preserved
loop-r-preserved c =
    zero-next c.args.block.now.matrix.now c.args.block.now.n c.args.block.now.top c.args.block.now.left (c.args.block.now.right - c.args.block.now.left) c.loop-r.r (omega arith)
    c.loop-r.invariant (row (goal.at.loop-r-preserved c).After-row_has_zero ∙ c.if-row_has_zero.false)
