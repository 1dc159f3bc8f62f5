-- Which weights count: a NaN, an infinity, and every other number but the two zeros. Assumes nothing.
use mathlib.Core.Path.{◌≡◌, refl}
use mathlib.Core.Bool.{Bool, true, false, not, ◌||◌, beq}
use Prim.Native.Nat.{ℕ, zero, suc, ◌*◌, ◌<◌}
use native.Mathlib.Nat.{zero-mul, mul-pos, zero-lt-suc}
use native.Mathlib.Omega.{arith}
use lib.Dec.{eqb}
use lib.Ieee.{nan, inf, fin, binary64, of_bits, ne, eq, up, down}
use lib.Ieee.Fits.{up_pos}
use lib.IntN.{ℤ}
use borrow.Author.Tests.{ne_eqb}
use Rattle.ieee_laws.specs.Zeros.{plus_zero, minus_zero}
use Rattle.open_count.specs.OpenCount.{is_nonzero}

-- "a NaN is not"
pub nan-counts : is_nonzero nan ≡ true
unfolding is_nonzero ne eq of_bits
nan-counts = refl

pub infinity-counts : (s : Bool) → is_nonzero (inf s) ≡ true
unfolding is_nonzero ne eq of_bits
infinity-counts s = refl

-- a finite number counts exactly where its significand is not 0, whatever its sign and exponent
pub number_counts : (s : Bool) (m : ℕ) (e : ℤ) → is_nonzero (fin s m e) ≡ not (eqb m 0)
unfolding is_nonzero ne eq of_bits
number_counts s zero e = rw (zero-mul (up e), zero-mul (down e)) (either s)
  where
    either : (b : Bool) → not (beq b false || true) ≡ false
    either true = refl
    either false = refl
number_counts s (suc m) e =
    let p : 0 < suc m * up e = mul-pos (zero-lt-suc m) (up_pos e) in
    rw (ne_eqb (suc m * up e * 1) (0 * down e) (λ z. omega (arith, zero-mul (down e))), ne_eqb (suc m) 0 (λ z. omega arith))

-- "either sign of zero is zero"
pub zeros-silent : (is_nonzero plus_zero ≡ false) × (is_nonzero minus_zero ≡ false)
unfolding is_nonzero ne eq of_bits
zeros-silent = (refl, refl)

-- the least number above zero counts
pub least-counts : is_nonzero (of_bits binary64 1) ≡ true
unfolding is_nonzero ne eq of_bits
least-counts = refl
