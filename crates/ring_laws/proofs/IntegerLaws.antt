-- The integers are a commutative ring, and what their signs say of sums and products.
use mathlib.Core.Path.{◌≡◌, refl, sym, ◌∙◌, ap, ap₂, subst}
use Prim.Native.Nat.{ℕ, zero, suc, ◌+◌, ◌*◌}
use native.Mathlib.Nat.{add-suc, mul-suc, zero-mul}
use lib.Dec.{T}
use lib.IntN.{ℤ, pos, negsuc, suc_ℤ, pred_ℤ, neg_ℤ, ◌+ℤ◌, ◌*ℤ◌, one, +ℤ_assoc, +ℤ_comm, +ℤ_idr, +ℤ_invr, neg_ℤ-+ℤ, zero-*ℤ, *ℤ-one, *ℤ_comm, suc_ℤ-*ℤ, pred_ℤ-*ℤ}
use Rattle.ring_laws.specs.Ring.{Ring}
use Rattle.ring_laws.specs.Rational.{is_positive}

-- (a + b) + (c + d) = (a + c) + (b + d)
swap4 : (a b c d : ℤ) → (a +ℤ b) +ℤ (c +ℤ d) ≡ (a +ℤ c) +ℤ (b +ℤ d)
swap4 a b c d =
    +ℤ_assoc a b (c +ℤ d) ∙ ap (λ x. a +ℤ x) (sym (+ℤ_assoc b c d) ∙ ap (λ x. x +ℤ d) (+ℤ_comm b c) ∙ +ℤ_assoc c b d) ∙ sym (+ℤ_assoc a c (b +ℤ d))

mul-add-up : (m a b : ℤ) → m *ℤ (a +ℤ b) ≡ m *ℤ a +ℤ m *ℤ b → suc_ℤ m *ℤ (a +ℤ b) ≡ suc_ℤ m *ℤ a +ℤ suc_ℤ m *ℤ b
mul-add-up m a b h =
    suc_ℤ-*ℤ m (a +ℤ b) ∙ ap (λ x. x +ℤ (a +ℤ b)) h ∙ swap4 (m *ℤ a) (m *ℤ b) a b ∙ ap₂ (λ x y. x +ℤ y) (sym (suc_ℤ-*ℤ m a)) (sym (suc_ℤ-*ℤ m b))

mul-add-down : (m a b : ℤ) → m *ℤ (a +ℤ b) ≡ m *ℤ a +ℤ m *ℤ b → pred_ℤ m *ℤ (a +ℤ b) ≡ pred_ℤ m *ℤ a +ℤ pred_ℤ m *ℤ b
mul-add-down m a b h =
    pred_ℤ-*ℤ m (a +ℤ b) ∙ ap₂ (λ x y. x +ℤ y) h (neg_ℤ-+ℤ a b) ∙ swap4 (m *ℤ a) (m *ℤ b) (neg_ℤ a) (neg_ℤ b) ∙ ap₂ (λ x y. x +ℤ y) (sym (pred_ℤ-*ℤ m a)) (sym (pred_ℤ-*ℤ m b))

mul-add-pos : (n : ℕ) (a b : ℤ) → pos n *ℤ (a +ℤ b) ≡ pos n *ℤ a +ℤ pos n *ℤ b
mul-add-pos zero a b = zero-*ℤ (a +ℤ b) ∙ sym (ap₂ (λ x y. x +ℤ y) (zero-*ℤ a) (zero-*ℤ b))
mul-add-pos (suc n) a b = mul-add-up (pos n) a b (mul-add-pos n a b)

mul-add-neg : (n : ℕ) (a b : ℤ) → negsuc n *ℤ (a +ℤ b) ≡ negsuc n *ℤ a +ℤ negsuc n *ℤ b
mul-add-neg zero a b = mul-add-down (pos zero) a b (mul-add-pos zero a b)
mul-add-neg (suc n) a b = mul-add-down (negsuc n) a b (mul-add-neg n a b)

pub mul-add : (m a b : ℤ) → m *ℤ (a +ℤ b) ≡ m *ℤ a +ℤ m *ℤ b
mul-add (pos n) = mul-add-pos n
mul-add (negsuc n) = mul-add-neg n

add-mul : (a b m : ℤ) → (a +ℤ b) *ℤ m ≡ a *ℤ m +ℤ b *ℤ m
add-mul a b m = *ℤ_comm (a +ℤ b) m ∙ mul-add m a b ∙ ap₂ (λ x y. x +ℤ y) (*ℤ_comm m a) (*ℤ_comm m b)

pub neg-mul : (a m : ℤ) → neg_ℤ a *ℤ m ≡ neg_ℤ (a *ℤ m)
neg-mul a m = alone (neg_ℤ a *ℤ m) (a *ℤ m) (sym (add-mul (neg_ℤ a) a m) ∙ ap (λ x. x *ℤ m) (+ℤ_comm (neg_ℤ a) a ∙ +ℤ_invr a) ∙ zero-*ℤ m)
  where
    alone : (x y : ℤ) → x +ℤ y ≡ pos zero → x ≡ neg_ℤ y
    alone x y h =
        sym (+ℤ_idr x) ∙ ap (λ t. x +ℤ t) (sym (+ℤ_invr y)) ∙ sym (+ℤ_assoc x y (neg_ℤ y)) ∙ ap (λ t. t +ℤ neg_ℤ y) h ∙ +ℤ_comm (pos zero) (neg_ℤ y) ∙ +ℤ_idr (neg_ℤ y)

mul-assoc-up : (m a b : ℤ) → (m *ℤ a) *ℤ b ≡ m *ℤ (a *ℤ b) → (suc_ℤ m *ℤ a) *ℤ b ≡ suc_ℤ m *ℤ (a *ℤ b)
mul-assoc-up m a b h = ap (λ x. x *ℤ b) (suc_ℤ-*ℤ m a) ∙ add-mul (m *ℤ a) a b ∙ ap (λ x. x +ℤ a *ℤ b) h ∙ sym (suc_ℤ-*ℤ m (a *ℤ b))

mul-assoc-down : (m a b : ℤ) → (m *ℤ a) *ℤ b ≡ m *ℤ (a *ℤ b) → (pred_ℤ m *ℤ a) *ℤ b ≡ pred_ℤ m *ℤ (a *ℤ b)
mul-assoc-down m a b h =
    ap (λ x. x *ℤ b) (pred_ℤ-*ℤ m a) ∙ add-mul (m *ℤ a) (neg_ℤ a) b ∙ ap₂ (λ x y. x +ℤ y) h (neg-mul a b) ∙ sym (pred_ℤ-*ℤ m (a *ℤ b))

mul-assoc-pos : (n : ℕ) (a b : ℤ) → (pos n *ℤ a) *ℤ b ≡ pos n *ℤ (a *ℤ b)
mul-assoc-pos zero a b = ap (λ x. x *ℤ b) (zero-*ℤ a) ∙ zero-*ℤ b ∙ sym (zero-*ℤ (a *ℤ b))
mul-assoc-pos (suc n) a b = mul-assoc-up (pos n) a b (mul-assoc-pos n a b)

mul-assoc-neg : (n : ℕ) (a b : ℤ) → (negsuc n *ℤ a) *ℤ b ≡ negsuc n *ℤ (a *ℤ b)
mul-assoc-neg zero a b = mul-assoc-down (pos zero) a b (mul-assoc-pos zero a b)
mul-assoc-neg (suc n) a b = mul-assoc-down (negsuc n) a b (mul-assoc-neg n a b)

pub mul_assoc : (m a b : ℤ) → (m *ℤ a) *ℤ b ≡ m *ℤ (a *ℤ b)
mul_assoc (pos n) = mul-assoc-pos n
mul_assoc (negsuc n) = mul-assoc-neg n

pub mul-one : (a : ℤ) → a *ℤ pos 1 ≡ a
unfolding one
mul-one a = *ℤ-one a

abbrev pub integers : Ring
integers = record {
  C = ℤ;
  zero = pos 0;
  one = pos 1;
  add = λ a b. a +ℤ b;
  neg = neg_ℤ;
  mul = λ a b. a *ℤ b;
  add_assoc = +ℤ_assoc;
  add_comm = +ℤ_comm;
  add-zero = +ℤ_idr;
  add-neg = +ℤ_invr;
  mul_assoc = mul_assoc;
  mul_comm = *ℤ_comm;
  mul-one = mul-one;
  mul-add = mul-add;
}

-- ---- signs

-- a product of two that are not 0
product : (m n : ℕ) → suc m * suc n ≡ suc (suc m * n + m)
product m n = mul-suc (suc m) n ∙ add-suc (suc m * n) m

-- the sign of a product by a positive number
pub sign-mul : (a d : ℤ) → T (is_positive d) → is_positive (a *ℤ d) ≡ is_positive a
sign-mul a (pos zero) p = absurd p
sign-mul a (negsuc n) p = absurd p
sign-mul (pos zero) (pos (suc n)) p = ap (λ t. is_positive (pos t)) (zero-mul (suc n))
sign-mul (pos (suc m)) (pos (suc n)) p = ap (λ t. is_positive (pos t)) (product m n)
sign-mul (negsuc m) (pos (suc n)) p = ap (λ t. is_positive (neg_ℤ (pos t))) (product m n)

pub mul-positive : (a b : ℤ) → T (is_positive a) → T (is_positive b) → T (is_positive (a *ℤ b))
mul-positive a b p q = subst T (sym (sign-mul a b q)) p

pub add-positive : (a b : ℤ) → T (is_positive a) → T (is_positive b) → T (is_positive (a +ℤ b))
add-positive (pos zero) b p q = absurd p
add-positive (negsuc m) b p q = absurd p
add-positive (pos (suc m)) (pos zero) p q = absurd q
add-positive (pos (suc m)) (negsuc n) p q = absurd q
add-positive (pos (suc m)) (pos (suc n)) p q = subst (λ t. T (is_positive (pos t))) (sym (add-suc (suc m) n)) tt

-- neither positive nor negative
pub no_sign : (a : ℤ) → ¬ T (is_positive a) → ¬ T (is_positive (neg_ℤ a)) → a ≡ pos 0
no_sign (pos zero) p q = refl
no_sign (pos (suc n)) p q = absurd (p tt)
no_sign (negsuc n) p q = absurd (q tt)
