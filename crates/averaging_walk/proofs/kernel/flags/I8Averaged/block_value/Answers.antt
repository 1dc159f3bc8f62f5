-- The value of a block of flags: 0 where one is 0, and none otherwise.
use mathlib.Core.Path.{sym, ◌∙◌}
use Rattle.averaging_flags.proofs.FlagLaws.{flag-zero, flag-none}
use Rattle.averaging_walk.specs.Parts.{part_of}
use Rattle.averaging_walk.proofs.kernel.flags.I8Averaged.block_value.Goals as goal

pub returns-then-block_has_zero : goal.returns-then-block_has_zero
returns-then-block_has_zero c =
    λ r k inside. sym (flag-zero c.args.block.now.n (part_of c.args.block.now) c.args.block.now.matrix.now r k (sym c.block_has_zero.ensures ∙ c.if-block_has_zero.true))

pub returns : goal.returns
returns c =
    λ r k inside. sym (flag-none c.args.block.now.n (part_of c.args.block.now) c.args.block.now.matrix.now r k (sym c.block_has_zero.ensures ∙ c.if-block_has_zero.false))
