-- The flags that occur, by the bits of a number. Assumes nothing.
use mathlib.Core.Path.{◌≡◌, sym, ap, ◌∙◌, refl}
use mathlib.Core.Bool.{false}
use Prim.Native.Nat.{ℕ}
use lib.IntN.{ℤ, pos, negsuc}
use mir.Syntax.{w64}
use mir.Val.{to_z, of_z, SFits}
use mir.Facts.{to_z-of_z}
use borrow.Author.Tests.{ne_eqb}
use Rattle.list_laws.specs.Signed.{eq_z}
use Rattle.replay_input.specs.Fields.{is_flag, flag_of}

unequal : (a b : ℤ) → (a ≡ b → ⊥) → eq_z a b ≡ false
unequal (pos a) (pos b) h = ne_eqb a b (λ e. h (ap pos e))
unequal (pos a) (negsuc b) h = refl
unequal (negsuc a) (pos b) h = refl
unequal (negsuc a) (negsuc b) h = ne_eqb a b (λ e. h (ap negsuc e))

module _ (n : ℤ) where
  -- by the bits of the number
  pub a-flag : (b : ℕ) (k : ℤ) → SFits w64 n → of_z w64 n ≡ b → to_z w64 b ≡ k → k ≡ flag_of k → k ≡ flag_of n
  a-flag b k f e g h = h ∙ ap flag_of (sym g ∙ ap (to_z w64) (sym e) ∙ to_z-of_z {w = w64} {z = n} f)

  pub no_flag : (of_z w64 n ≡ 0 → ⊥) → (of_z w64 n ≡ 1 → ⊥) → (of_z w64 n ≡ 2 → ⊥) → (of_z w64 n ≡ 5 → ⊥) → (of_z w64 n ≡ 9 → ⊥) → (of_z w64 n ≡ 18446744073709551615 → ⊥)
      → (of_z w64 n ≡ 127 → ⊥) → negsuc 127 ≡ flag_of n
  unfolding flag_of is_flag
  no_flag a b c d e f g =
      rw (other (pos 0) a, other (pos 1) b, other (pos 2) c, other (pos 5) d, other (pos 9) e, other (negsuc 0) f, other (pos 127) g)
    where
      other : (k : ℤ) → (of_z w64 n ≡ of_z w64 k → ⊥) → eq_z n k ≡ false
      other k h = unequal n k (λ w. h (ap (of_z w64) w))
