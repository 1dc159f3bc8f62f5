-- The product of the counts of a study stays small. Assumes nothing.
use mathlib.Core.Path.{◌≡◌}
use mathlib.Core.Bool.{true}
use Prim.Native.Nat.{ℕ, ◌*◌, ◌≤◌}
use native.Mathlib.Nat.{mul-le-mul}
use lib.IntN.{ℤ, pos}
use lib.Signed.{mag}
use Rattle.question_values.specs.TpTypes.{channels_of}
use Rattle.question_values.specs.Counts.{are_counts}
use Rattle.question_values.proofs.TypeLaws.{channels-le}
use Rattle.question_values.proofs.CountLaws.{bands1-high, bands2-high, points-high, many-high}

module _ (type b1 b2 : ℤ) (points triplets : ℕ) (e : are_counts b1 b2 (pos points) (pos triplets) ≡ true) where
  pub bands-small : mag b1 * mag b2 ≤ 4096
  bands-small = mul-le-mul (bands1-high b1 b2 (pos points) (pos triplets) e) (bands2-high b1 b2 (pos points) (pos triplets) e)

  pub one-small : channels_of type * triplets ≤ 196608
  one-small = mul-le-mul (channels-le type) (many-high b1 b2 (pos points) (pos triplets) e)

  pub two-small : channels_of type * triplets * points ≤ 201326592
  two-small = mul-le-mul one-small (points-high b1 b2 (pos points) (pos triplets) e)

  pub three-small : channels_of type * triplets * points * (mag b1 * mag b2) ≤ 824633720832
  three-small = mul-le-mul two-small bands-small
