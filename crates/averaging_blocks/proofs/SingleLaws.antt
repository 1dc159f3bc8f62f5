-- Averaging over sets of one place each, as with ids 0, 1, 2, .., changes nothing. Assumes nothing.
use mathlib.Core.Path.{◌≡◌, sym, ap}
use mathlib.Core.Logic.{⊎_elim}
use mathlib.Core.Bool.{cond, ◌||◌, false}
use mathlib.Core.List.{List}
use Prim.Native.Nat.{ℕ, suc, ◌+◌, ◌-◌, ◌*◌, ◌≤◌}
use native.Mathlib.Omega.{arith}
use lib.IntN.{ℤ, pos}
use lib.ListN.{length}
use lib.Ieee.{Float, nan}
use Rattle.list_laws.specs.Lists.{at}
use Rattle.list_laws.specs.Matrix.{block}
use Rattle.list_laws.specs.Signed.{eq_z}
use Rattle.list_laws.proofs.BoolLaws.{true-or-false}
use Rattle.list_laws.proofs.EqualLaws.{equal_is}
use Rattle.ieee_laws.specs.Zeros.{plus_zero}
use Rattle.averaging_blocks.specs.Weights.{averaged_in, averaged_from, averaged_points}
use Rattle.averaging_flags.specs.Flags.{flag_in, averaged_flags, averaged_flag_points}
use Rattle.degenerate_sets.proofs.SingleLaws as single
use Rattle.degenerate_sets.proofs.SingleLaws.{Singles, KeepsSingles}
use Rattle.averaging_blocks.proofs.WeightLaws.{averaged-one}

-- ---- weights

-- a weight that is a block by itself stays
weight-single : (z : Float) → KeepsSingles nan (averaged_in z)
weight-single z n r c m = averaged-one z n (block r (suc r) c (suc c)) m r c one
  where
    one : (suc r - r) * (suc c - c) ≤ 1
    one =
        let a : suc r - r ≡ 1 = omega arith in
        let b : suc c - c ≡ 1 = omega arith in
        rw (a, b) (omega arith)

pub weights-single : (z : Float) (n : ℕ) (ids1 ids2 : List ℤ) (m : List Float) → Singles n ids1 → Singles n ids2 → length m ≡ n * n
    → averaged_from z n ids1 ids2 m ≡ m
weights-single z = single.averaged-single nan (averaged_in z) (weight-single z)

-- ---- flags

flag-kept : (z : ℤ) → cond (false || (false || eq_z z (pos 0))) (pos 0) z ≡ z
flag-kept z = ⊎_elim (λ t. rw t (sym (equal_is z (pos 0) t))) (λ t. rw t) (true-or-false (eq_z z (pos 0)))

-- a flag that is a block by itself stays
pub flag-single : (n r c : ℕ) (m : List ℤ) → flag_in n (block r (suc r) c (suc c)) m r c ≡ at m (r * n + c)
unfolding flag_in
flag-single n r c m =
    let a : suc r - r ≡ 1 = omega arith in
    let b : suc c - c ≡ 1 = omega arith in
    let e : (r + 0) * n + c + 0 ≡ r * n + c = omega (arith, ap (λ (x : ℕ). x * n) {x = r + 0} {y = r} (omega arith)) in
    rw (a, b, e) (flag-kept (at m (r * n + c)))

pub flags-single : (n : ℕ) (ids1 ids2 m : List ℤ) → Singles n ids1 → Singles n ids2 → length m ≡ n * n → averaged_flags n ids1 ids2 m ≡ m
flags-single = single.averaged-single (pos 0) flag_in flag-single

-- ---- the matrices of all points

pub points-single : (bands : ℕ) (ids1 ids2 : List ℤ) (points : ℕ) (w : List Float) → Singles bands ids1 → Singles bands ids2
    → length w ≡ points * (bands * bands) → averaged_points bands ids1 ids2 points w ≡ w
points-single = single.points-single nan (averaged_in plus_zero) (weight-single plus_zero)

pub flag-points-single : (bands : ℕ) (ids1 ids2 : List ℤ) (points : ℕ) (flags : List ℤ) → Singles bands ids1 → Singles bands ids2
    → length flags ≡ points * (bands * bands) → averaged_flag_points bands ids1 ids2 points flags ≡ flags
flag-points-single = single.points-single (pos 0) flag_in flag-single
