-- An accepted call of the averaging's entry: each point's matrix, of each channel and of the flags, is what its blocks in turn make of the old one.
-- Assumes nothing.
use mathlib.Core.Path.{◌≡◌, sym, ◌∙◌}
use mathlib.Core.List.{List}
use Prim.Native.Nat.{ℕ, ◌*◌}
use native.Mathlib.Omega.{arith}
use lib.IntN.{ℤ}
use lib.Ieee.{Float}
use lib.Signed.{mag}
use Rattle.list_laws.specs.Lists.{part}
use Rattle.list_laws.specs.Matrix.{each_part}
use Rattle.list_laws.proofs.MatrixLaws.{each-ext, part-len}
use Rattle.ieee_laws.specs.Zeros.{plus_zero}
use Rattle.ask.proofs.AskLaws.{after-done}
use Rattle.question_values.specs.TpTypes.{channels_of}
use Rattle.degenerate_sets.specs.Averages.{points_by}
use Rattle.averaging_flags.specs.Flags.{averaged_flags, flags_in_turn, averaged_flag_points}
use Rattle.averaging_blocks.specs.Weights.{averaged, weights_in_turn, averaged_points}
use Rattle.averaging_flags.proofs.FlagLaws.{flags-in-turn}
use Rattle.averaging_blocks.proofs.WeightLaws.{weights-in-turn}
use Rattle.averaging.specs.Answers.{averaging_no, weights_after, flags_after}
use Rattle.averaging.proofs.AnswerLaws.{accepted}

module _ (iw : List Float) (iwz ids1 ids2 : List ℤ) (points bands type : ℤ) (done : averaging_no iw iwz ids1 ids2 points bands type ≡ 0) where
  pub entry-weights : weights_after iw iwz ids1 ids2 points bands type
      ≡ each_part (mag bands * mag bands) (weights_in_turn (mag bands) ids1 ids2) (channels_of type * mag points) iw
  unfolding points_by
  entry-weights =
      let n : ℕ = mag bands in
      let x = accepted iw iwz ids1 ids2 points bands type done in
      sym (after-done (averaging_no iw iwz ids1 ids2 points bands type) (averaged_points n ids1 ids2 (channels_of type * mag points) iw) iw done)
      ∙ each-ext (n * n) (averaged n ids1 ids2) (weights_in_turn n ids1 ids2) (channels_of type * mag points) iw
      (λ k h. weights-in-turn plus_zero n ids1 ids2 (part (k * (n * n)) (n * n) iw)
      (part-len (n * n) k (channels_of type * mag points) iw h (omega (arith, x.weights))))

  pub entry-flags : flags_after iw iwz ids1 ids2 points bands type
      ≡ each_part (mag bands * mag bands) (flags_in_turn (mag bands) ids1 ids2) (mag points) iwz
  unfolding points_by
  entry-flags =
      let n : ℕ = mag bands in
      let x = accepted iw iwz ids1 ids2 points bands type done in
      sym (after-done (averaging_no iw iwz ids1 ids2 points bands type) (averaged_flag_points n ids1 ids2 (mag points) iwz) iwz done)
      ∙ each-ext (n * n) (averaged_flags n ids1 ids2) (flags_in_turn n ids1 ids2) (mag points) iwz
      (λ k h. flags-in-turn n ids1 ids2 (part (k * (n * n)) (n * n) iwz)
      (part-len (n * n) k (mag points) iwz h (omega (arith, x.flags))))
