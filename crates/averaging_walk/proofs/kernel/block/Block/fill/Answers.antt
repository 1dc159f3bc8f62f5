-- `averaging_walk::kernel::block::Block::fill` meets its contract: at each turn the block's rows before r are filled.
use mathlib.Core.Path.{◌≡◌, ap, ◌∙◌}
use Prim.Native.Nat.{ℕ, ◌+◌, ◌-◌, ◌*◌, ◌≤◌}
use native.Mathlib.Omega.{arith}
use borrow.Author.Rules.{rules}
use lib.ListN.{length, take, drop, replicate, length-drop}
use lib.Seq.{length-take-le}
use Rattle.list_laws.proofs.MatrixLaws.{block_more}
use Rattle.averaging_walk.proofs.RowLaws.{filled-mid, row_within}
use Rattle.averaging_walk.proofs.kernel.block.Block.fill.Goals as goal

pub offset_bounds-self-start : goal.offset_bounds-self-start
offset_bounds-self-start g c =
    let b = c.loop-r.self in
    let from = c.loop-r.r * b.n + b.left in
    let within = row_within {n = b.n} {r = c.loop-r.r} {left = b.left} {right = b.right} b.square.0 (omega arith) (omega arith) (omega arith) in
    let le : from ≤ length b.matrix.now = omega (arith, within) in
    search (rules, le)

pub loop-r-preserved : goal.loop-r-preserved
loop-r-preserved g c =
    let d = g.E.Averaged.past_end in
    let b = c.loop-r.self in
    let same = c.loop-r.invariant.0 in
    let from = c.loop-r.r * b.n + b.left in
    let to = c.loop-r.r * b.n + b.right in
    let m = b.matrix.now in
    let within = row_within {n = b.n} {r = c.loop-r.r} {left = b.left} {right = b.right} b.square.0 (omega arith) (omega arith) (omega arith) in
    let wide : length (take (to - from) (drop from m)) ≡ to - from = length-take-le (to - from) (drop from m) (omega (arith, length-drop from m, within)) in (
      record { matrix = same.matrix; n = same.n; top = same.top; bottom = same.bottom; left = same.left; right = same.right },
      block_more d b.n b.top b.left b.right c.args.value c.loop-r.r c.args.self.now.matrix.now m _ c.loop-r.invariant.1
          (omega (arith, same.top)) (omega arith) (omega arith)
          (filled-mid d c.args.value m from to within.0 within.1 c.fill_row.new.row
          (c.fill_row.ensures ∙ ap (λ (w : ℕ). replicate w c.args.value) wide)
          (c.fill_row.auto.row ∙ wide)),
    )
