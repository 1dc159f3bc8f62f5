-- A type has three channels at most. Assumes nothing.
use mathlib.Core.Bool.{Bool, true, false, cond}
use Prim.Native.Nat.{◌≤◌}
use native.Mathlib.Omega.{arith}
use lib.IntN.{ℤ}
use Rattle.list_laws.specs.Signed.{is_nat}
use Rattle.question_values.specs.TpTypes.{channels_of}

pub channels-le : (t : ℤ) → channels_of t ≤ 3
unfolding channels_of
channels-le t = go (is_nat t 2) (is_nat t 3)
  where
    go : (p q : Bool) → cond p 2 (cond q 3 1) ≤ 3
    go true q = omega arith
    go false true = omega arith
    go false false = omega arith
