-- A number in base n, and the next: its last digit goes up, or back to 0. Assumes nothing.
use Prim.Native.Nat.{ℕ, ◌+◌, ◌*◌, ◌/◌, ◌%◌, ◌≤◌, ◌<◌}
use mathlib.Core.Path.{◌≡◌, ap, ◌∙◌}
use native.Mathlib.Nat.{div-add-mod', mod-lt}
use native.Mathlib.Omega.{arith}
use lib.Arith.{digits_mod, digits_div}

module _ (e n : ℕ) (h : 0 < n) where
  same_whole : e / n * n + e % n ≡ e
  same_whole = div-add-mod' e n

  -- the next number, by the same higher digits and by the next ones
  next-kept : e + 1 ≡ e / n * n + (e % n + 1)
  next-kept = omega (arith, same_whole)

  next-back : n ≤ e % n + 1 → e + 1 ≡ (e / n + 1) * n + 0
  next-back l = let up : (e / n + 1) * n ≡ e / n * n + n = omega arith in omega (arith, same_whole, mod-lt e h, up)

  pub mod-up : e % n + 1 < n → (e + 1) % n ≡ e % n + 1
  mod-up l = ap (λ (k : ℕ). k % n) next-kept ∙ digits_mod (e / n) {m = n} {r = e % n + 1} l

  pub div-kept : e % n + 1 < n → (e + 1) / n ≡ e / n
  div-kept l = ap (λ (k : ℕ). k / n) next-kept ∙ digits_div (e / n) {m = n} {r = e % n + 1} l

  pub mod-back : n ≤ e % n + 1 → (e + 1) % n ≡ 0
  mod-back l = ap (λ (k : ℕ). k % n) (next-back l) ∙ digits_mod (e / n + 1) {m = n} {r = 0} h

  pub div-up : n ≤ e % n + 1 → (e + 1) / n ≡ e / n + 1
  div-up l = ap (λ (k : ℕ). k / n) (next-back l) ∙ digits_div (e / n + 1) {m = n} {r = 0} h
