-- Products, differences and sums of signed numbers within bounds, and what the machine holds and hands on of such numbers. Assumes nothing.
use mathlib.Core.Path.{◌≡◌, ◌∙◌, ap}
use mathlib.Core.Bool.{true}
use Prim.Native.Nat.{ℕ, ◌+◌, ◌*◌, ◌<◌, ◌≤◌}
use native.Mathlib.Nat.{mul-le-mul}
use native.Mathlib.Omega.{arith}
use borrow.Author.Tests.{leb-true, le-leb}
use borrow.Author.Differences.{ints}
use lib.Dec.{eqb}
use lib.IntN.{ℤ, nat_abs, ◌+ℤ◌, ◌-ℤ◌, ◌*ℤ◌}
use lib.Signed.{mag}
use mir.Syntax.{w64}
use mir.Val.{SFits, to_z, of_z}
use mir.ValLaws.{to_z-of_z}
use Rattle.std.proofs.lemmas.Int.{fits_signed_from_abs}
use Rattle.list_laws.specs.Signed.{eq_z, within}
use Rattle.list_laws.proofs.SignedLaws.{eqb-signed}
use Rattle.list_laws.proofs.SizeLaws.{size-product}

pub small : (n : ℕ) (z : ℤ) → within n z ≡ true → nat_abs z ≤ n
unfolding within
small n z e = leb-true (nat_abs z) n e

pub is-small : (n : ℕ) (z : ℤ) → nat_abs z ≤ n → within n z ≡ true
unfolding within
is-small n z h = le-leb (nat_abs z) n h

-- what is within one bound is within another that is no less
pub wider : (n m : ℕ) (z : ℤ) → within n z ≡ true → n ≤ m → within m z ≡ true
wider n m z e h = is-small m z (omega (arith, small n z e, h))

pub product-small : (n m : ℕ) (a b : ℤ) → within n a ≡ true → within m b ≡ true → within (n * m) (a *ℤ b) ≡ true
product-small n m a b e f = is-small (n * m) (a *ℤ b) (omega (arith, size-product a b, mul-le-mul (small n a e) (small m b f)))

pub difference-small : (n m : ℕ) (a b : ℤ) → within n a ≡ true → within m b ≡ true → within (n + m) (a -ℤ b) ≡ true
difference-small n m a b e f = is-small (n + m) (a -ℤ b) (omega (arith, ints, small n a e, small m b f))

pub sum-small : (n m : ℕ) (a b : ℤ) → within n a ≡ true → within m b ≡ true → within (n + m) (a +ℤ b) ≡ true
sum-small n m a b e f = is-small (n + m) (a +ℤ b) (omega (arith, ints, small n a e, small m b f))

-- a number of magnitude below 2^63 fits
pub small-fits : (n : ℕ) (z : ℤ) → n < 9223372036854775808 → within n z ≡ true → SFits w64 z
small-fits n z h e = fits_signed_from_abs w64 z (omega (arith, small n z e, h))

-- what the machine hands on of a result, by what the result is
pub handed : {x : ℤ} (z : ℤ) → mag x < 9223372036854775808 → x ≡ z → to_z w64 (of_z w64 x) ≡ z
handed z h e = to_z-of_z w64 _ (record { sfits = h }) ∙ e

pub handed-small : {x : ℤ} (n : ℕ) (z : ℤ) → mag x < 9223372036854775808 → x ≡ z → within n z ≡ true → within n (to_z w64 (of_z w64 x)) ≡ true
handed-small n z h e s = rw (handed z h e) s

-- equality as the machine has it, of a result and a number, by what the result is
pub handed-equal : {x : ℤ} (z v : ℤ) → mag x < 9223372036854775808 → x ≡ z → mag v < 9223372036854775808 → eqb (of_z w64 x) (of_z w64 v) ≡ eq_z z v
handed-equal {x} z v h e g = eqb-signed w64 x v h g ∙ ap (λ y. eq_z y v) e
