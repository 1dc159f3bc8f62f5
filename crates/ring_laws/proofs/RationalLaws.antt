-- The rational numbers are a field, ordered, with a test of the order: each law by the fractions, where it is an identity of integers.
use mathlib.Core.Path.{◌≡◌, refl, sym, ◌∙◌, ap, ap₂, subst}
use mathlib.Core.Logic.{◌≢◌}
use mathlib.Core.HLevel.{Π_prop}
use mathlib.Core.Bool.{Bool, Bool-set}
use mathlib.Core.Quot.{mk, sound, Quot-set, lift, ind}
use mathlib.Core.List.{List, [], ◌∷◌}
use Prim.Native.Nat.{ℕ, zero, suc}
use lib.Dec.{T, T_prop}
use lib.IntN.{ℤ, pos, negsuc, neg_ℤ, neg_ℤ-neg_ℤ, neg_ℤ-+ℤ, ◌+ℤ◌, ◌*ℤ◌, +ℤ_comm, +ℤ_invr, *ℤ_comm, zero-*ℤ}
use Rattle.ring_laws.specs.Ring.{Ring, Field, Ordered, AtMost, LinearOrdered}
use Rattle.ring_laws.specs.Expression.{Expr, var, nought, unit, plus, minus, times}
use Rattle.ring_laws.specs.Polynomial.{given}
use Rattle.ring_laws.specs.Rational.{is_positive, Fraction, Same, Rational}
use Rattle.ring_laws.proofs.RingLaws
use Rattle.ring_laws.proofs.PolynomialLaws.{ring, modulo}
use Rattle.ring_laws.proofs.IntegerLaws.{integers, neg-mul, sign-mul, mul-positive, add-positive, no_sign}

-- ---- fractions

abbrev pub sum : Fraction → Fraction → Fraction
sum x y = record {
  num = x.num *ℤ y.den +ℤ y.num *ℤ x.den;
  den = x.den *ℤ y.den;
  positive = mul-positive x.den y.den x.positive y.positive;
}

abbrev pub product : Fraction → Fraction → Fraction
product x y = record { num = x.num *ℤ y.num; den = x.den *ℤ y.den; positive = mul-positive x.den y.den x.positive y.positive }

abbrev pub opposite : Fraction → Fraction
opposite x = record { num = neg_ℤ x.num; den = x.den; positive = x.positive }

abbrev pub whole : ℕ → Fraction
whole n = record { num = pos n; den = pos 1; positive = tt }

-- d / n: the sign is the numerator's; 0 where n is 0
abbrev pub over : (n d : ℤ) → T (is_positive d) → Fraction
over (pos zero) d p = record { num = pos 0; den = pos 1; positive = tt }
over (pos (suc n)) d p = record { num = d; den = pos (suc n); positive = tt }
over (negsuc n) d p = record { num = neg_ℤ d; den = pos (suc n); positive = tt }

abbrev pub inverse : Fraction → Fraction
inverse x = over x.num x.den x.positive

-- ---- they respect the relation

pub sum_left : (x x' y : Fraction) → Same x x' → Same (sum x y) (sum x' y)
sum_left x x' y h =
    modulo integers
    (times (plus (times (var 0) (var 5)) (times (var 4) (var 1))) (times (var 3) (var 5)))
    (times (plus (times (var 2) (var 5)) (times (var 4) (var 3))) (times (var 1) (var 5)))
    (given (times (var 5) (var 5)) (times (var 0) (var 3)) (times (var 2) (var 1)) ∷ [])
    (x.num ∷ x.den ∷ x'.num ∷ x'.den ∷ y.num ∷ y.den ∷ []) tt (h, tt)

pub sum-right : (x y y' : Fraction) → Same y y' → Same (sum x y) (sum x y')
sum-right x y y' h =
    modulo integers
    (times (plus (times (var 4) (var 1)) (times (var 0) (var 5))) (times (var 5) (var 3)))
    (times (plus (times (var 4) (var 3)) (times (var 2) (var 5))) (times (var 5) (var 1)))
    (given (times (var 5) (var 5)) (times (var 0) (var 3)) (times (var 2) (var 1)) ∷ [])
    (y.num ∷ y.den ∷ y'.num ∷ y'.den ∷ x.num ∷ x.den ∷ []) tt (h, tt)

pub product-left : (x x' y : Fraction) → Same x x' → Same (product x y) (product x' y)
product-left x x' y h =
    modulo integers (times (times (var 0) (var 4)) (times (var 3) (var 5))) (times (times (var 2) (var 4)) (times (var 1) (var 5)))
    (given (times (var 4) (var 5)) (times (var 0) (var 3)) (times (var 2) (var 1)) ∷ [])
    (x.num ∷ x.den ∷ x'.num ∷ x'.den ∷ y.num ∷ y.den ∷ []) tt (h, tt)

pub product-right : (x y y' : Fraction) → Same y y' → Same (product x y) (product x y')
product-right x y y' h =
    modulo integers (times (times (var 4) (var 0)) (times (var 5) (var 3))) (times (times (var 4) (var 2)) (times (var 5) (var 1)))
    (given (times (var 4) (var 5)) (times (var 0) (var 3)) (times (var 2) (var 1)) ∷ [])
    (y.num ∷ y.den ∷ y'.num ∷ y'.den ∷ x.num ∷ x.den ∷ []) tt (h, tt)

pub opposite-same : (x y : Fraction) → Same x y → Same (opposite x) (opposite y)
opposite-same x y h = neg-mul x.num y.den ∙ ap neg_ℤ h ∙ sym (neg-mul y.num x.den)

-- fractions that are the same have the same sign
pub same_sign : (x y : Fraction) → Same x y → is_positive x.num ≡ is_positive y.num
same_sign x y h = sym (sign-mul x.num y.den y.positive) ∙ ap is_positive h ∙ sign-mul y.num x.den x.positive

over-same : (n d m e : ℤ) (p : T (is_positive d)) (q : T (is_positive e)) → n *ℤ e ≡ m *ℤ d → is_positive n ≡ is_positive m → is_positive (neg_ℤ n) ≡ is_positive (neg_ℤ m) → Same (over n d p) (over m e q)
over-same (pos zero) d (pos zero) e p q h s t = refl
over-same (pos zero) d (pos (suc m)) e p q h s t = absurd (subst T (sym s) tt)
over-same (pos zero) d (negsuc m) e p q h s t = absurd (subst T (sym t) tt)
over-same (pos (suc n)) d (pos zero) e p q h s t = absurd (subst T s tt)
over-same (pos (suc n)) d (pos (suc m)) e p q h s t = *ℤ_comm d (pos (suc m)) ∙ sym h ∙ *ℤ_comm (pos (suc n)) e
over-same (pos (suc n)) d (negsuc m) e p q h s t = absurd (subst T s tt)
over-same (negsuc n) d (pos zero) e p q h s t = absurd (subst T t tt)
over-same (negsuc n) d (pos (suc m)) e p q h s t = absurd (subst T t tt)
over-same (negsuc n) d (negsuc m) e p q h s t =
    neg-mul d (pos (suc m)) ∙ ap neg_ℤ (*ℤ_comm d (pos (suc m))) ∙ sym (neg-mul (pos (suc m)) d)
    ∙ sym h
    ∙ neg-mul (pos (suc n)) e ∙ ap neg_ℤ (*ℤ_comm (pos (suc n)) e) ∙ sym (neg-mul e (pos (suc n)))

pub inverse-same : (x y : Fraction) → Same x y → Same (inverse x) (inverse y)
inverse-same x y h = over-same x.num x.den y.num y.den x.positive y.positive h (same_sign x y h) (same_sign (opposite x) (opposite y) (opposite-same x y h))

-- ---- the operations

-- an operation on fractions that respects the relation
module _ (op : Fraction → Fraction → Fraction) (left : (x x' y : Fraction) → Same x x' → Same (op x y) (op x' y)) (right : (x y y' : Fraction) → Same y y' → Same (op x y) (op x y')) where
  abbrev pub inner : Fraction → Rational → Rational
  inner x b = lift {r = Same} Quot-set (λ y. mk (op x y)) (λ y y' h. sound (right x y y' h)) b

  pub inner-same : (x x' : Fraction) → Same x x' → (b : Rational) → inner x b ≡ inner x' b
  inner-same x x' h = ind {r = Same} (λ b. Quot-set (inner x b) (inner x' b)) (λ y. sound (left x x' y h))

  abbrev pub lifted : Rational → Rational → Rational
  lifted a b = lift {r = Same} Quot-set (λ x. inner x b) (λ x x' h. inner-same x x' h b) a

unfoldable pub add : Rational → Rational → Rational
add = lifted sum sum_left sum-right

unfoldable pub mul : Rational → Rational → Rational
mul = lifted product product-left product-right

unfoldable pub neg : Rational → Rational
neg a = lift {r = Same} Quot-set (λ x. mk (opposite x)) (λ x y h. sound (opposite-same x y h)) a

unfoldable pub inv : Rational → Rational
inv a = lift {r = Same} Quot-set (λ x. mk (inverse x)) (λ x y h. sound (inverse-same x y h)) a

unfoldable pub positive : Rational → Bool
positive a = lift {r = Same} Bool-set (λ x. is_positive x.num) same_sign a

-- the rational number of a natural number
abbrev pub cast : ℕ → Rational
cast n = mk (whole n)

-- ---- the laws

-- two rational numbers, and three, by their fractions
two : (l r : Rational → Rational → Rational) → ((x y : Fraction) → l (mk x) (mk y) ≡ r (mk x) (mk y)) → (a b : Rational) → l a b ≡ r a b
two l r h a b = ind {r = Same} (λ a. Quot-set (l a b) (r a b)) (λ x. ind {r = Same} (λ b. Quot-set (l (mk x) b) (r (mk x) b)) (h x) b) a

three : (l r : Rational → Rational → Rational → Rational) → ((x y z : Fraction) → l (mk x) (mk y) (mk z) ≡ r (mk x) (mk y) (mk z)) → (a b c : Rational) → l a b c ≡ r a b c
three l r h a b c = ind {r = Same} (λ a. Quot-set (l a b c) (r a b c)) (λ x. two (l (mk x)) (r (mk x)) (h x) b c) a

one : (l r : Rational → Rational) → ((x : Fraction) → l (mk x) ≡ r (mk x)) → (a : Rational) → l a ≡ r a
one l r h a = ind {r = Same} (λ a. Quot-set (l a) (r a)) h a

-- the parts of a fraction's sum and product as expressions
abbrev sum_s : Expr × Expr → Expr × Expr → Expr × Expr
sum_s x y = (plus (times x.0 y.1) (times y.0 x.1), times x.1 y.1)

abbrev product_s : Expr × Expr → Expr × Expr → Expr × Expr
product_s x y = (times x.0 y.0, times x.1 y.1)

abbrev A : Expr × Expr
A = (var 0, var 1)

abbrev B : Expr × Expr
B = (var 2, var 3)

abbrev D : Expr × Expr
D = (var 4, var 5)

abbrev parts : Fraction → Fraction → Fraction → List ℤ
parts x y z = x.num ∷ x.den ∷ y.num ∷ y.den ∷ z.num ∷ z.den ∷ []

-- a fraction's cross products
abbrev crossed : Expr × Expr → Expr × Expr → Expr
crossed l r = times l.0 r.1

pub add_assoc : (a b c : Rational) → add (add a b) c ≡ add a (add b c)
unfolding add
add_assoc =
    three (λ a b c. add (add a b) c) (λ a b c. add a (add b c))
    (λ x y z. sound (let l = sum_s (sum_s A B) D in let r = sum_s A (sum_s B D) in ring integers (crossed l r) (crossed r l) (parts x y z) tt))

pub add_comm : (a b : Rational) → add a b ≡ add b a
unfolding add
add_comm = two (λ a b. add a b) (λ a b. add b a) (λ x y. sound (ring integers (crossed (sum_s A B) (sum_s B A)) (crossed (sum_s B A) (sum_s A B)) (parts x y x) tt))

pub add-zero : (a : Rational) → add a (cast 0) ≡ a
unfolding add
add-zero = one (λ a. add a (cast 0)) (λ a. a) (λ x. sound (let l = sum_s A (nought, unit) in ring integers (crossed l A) (crossed A l) (parts x x x) tt))

pub add-neg : (a : Rational) → add a (neg a) ≡ cast 0
unfolding add neg
add-neg =
    one (λ a. add a (neg a)) (λ a. cast 0)
    (λ x. sound
    (modulo integers (times (plus (times (var 0) (var 1)) (times (var 2) (var 1))) unit) (times nought (times (var 1) (var 1)))
    (given (var 1) (plus (var 0) (var 2)) nought ∷ []) (x.num ∷ x.den ∷ neg_ℤ x.num ∷ []) tt (+ℤ_invr x.num, tt)))

pub mul_assoc : (a b c : Rational) → mul (mul a b) c ≡ mul a (mul b c)
unfolding mul
mul_assoc =
    three (λ a b c. mul (mul a b) c) (λ a b c. mul a (mul b c))
    (λ x y z. sound (let l = product_s (product_s A B) D in let r = product_s A (product_s B D) in ring integers (crossed l r) (crossed r l) (parts x y z) tt))

pub mul_comm : (a b : Rational) → mul a b ≡ mul b a
unfolding mul
mul_comm = two (λ a b. mul a b) (λ a b. mul b a) (λ x y. sound (ring integers (crossed (product_s A B) (product_s B A)) (crossed (product_s B A) (product_s A B)) (parts x y x) tt))

pub mul-one : (a : Rational) → mul a (cast 1) ≡ a
unfolding mul
mul-one = one (λ a. mul a (cast 1)) (λ a. a) (λ x. sound (let l = product_s A (unit, unit) in ring integers (crossed l A) (crossed A l) (parts x x x) tt))

pub mul-add : (a b c : Rational) → mul a (add b c) ≡ add (mul a b) (mul a c)
unfolding add mul
mul-add =
    three (λ a b c. mul a (add b c)) (λ a b c. add (mul a b) (mul a c))
    (λ x y z. sound (let l = product_s A (sum_s B D) in let r = sum_s (product_s A B) (product_s A D) in ring integers (crossed l r) (crossed r l) (parts x y z) tt))

-- the product by the inverse
over-product : (n d : ℤ) (p : T (is_positive d)) → n ≢ pos 0 → (n *ℤ (over n d p).num) *ℤ pos 1 ≡ pos 1 *ℤ (d *ℤ (over n d p).den)
over-product (pos zero) d p h = absurd (h refl)
over-product (pos (suc n)) d p h = ring integers (times (times (var 0) (var 1)) unit) (times unit (times (var 1) (var 0))) (pos (suc n) ∷ d ∷ []) tt
over-product (negsuc n) d p h =
    modulo integers (times (times (var 2) (var 3)) unit) (times unit (times (var 1) (var 0)))
    (given (var 3) (plus (var 0) (var 2)) nought ∷ given (minus nought (var 0)) (plus (var 1) (var 3)) nought ∷ [])
    (pos (suc n) ∷ d ∷ negsuc n ∷ neg_ℤ d ∷ []) tt (+ℤ_invr (pos (suc n)), (+ℤ_invr d, tt))

pub mul-inv : (a : Rational) → a ≢ cast 0 → mul a (inv a) ≡ cast 1
unfolding mul inv
mul-inv =
    ind {r = Same} (λ a. Π_prop (λ h. Quot-set (mul a (inv a)) (cast 1)))
    (λ x h. sound (over-product x.num x.den x.positive
    (λ e. h (sound (ap (λ t. t *ℤ pos 1) e ∙ zero-*ℤ (pos 1) ∙ sym (zero-*ℤ x.den))))))

abbrev pub rational_ring : Ring
rational_ring = record {
  C = Rational;
  zero = cast 0;
  one = cast 1;
  add = add;
  neg = neg;
  mul = mul;
  add_assoc = add_assoc;
  add_comm = add_comm;
  add-zero = add-zero;
  add-neg = add-neg;
  mul_assoc = mul_assoc;
  mul_comm = mul_comm;
  mul-one = mul-one;
  mul-add = mul-add;
}

abbrev pub rational_field : Field
rational_field = record { ring = rational_ring; inv = inv; mul-inv = mul-inv }

-- ---- the order

pub add-above : (a b : Rational) → T (positive a) → T (positive b) → T (positive (add a b))
unfolding add positive
add-above a b =
    ind {r = Same} {β = λ a. T (positive a) → T (positive b) → T (positive (add a b))} (λ a. Π_prop (λ p. Π_prop (λ q. T_prop (positive (add a b)))))
    (λ x. ind {r = Same} {β = λ b. T (is_positive x.num) → T (positive b) → T (positive (add (mk x) b))} (λ b. Π_prop (λ p. Π_prop (λ q. T_prop (positive (add (mk x) b)))))
    (λ y p q. add-positive (x.num *ℤ y.den) (y.num *ℤ x.den) (mul-positive x.num y.den p y.positive) (mul-positive y.num x.den q x.positive))
    b) a

pub mul-above : (a b : Rational) → T (positive a) → T (positive b) → T (positive (mul a b))
unfolding mul positive
mul-above a b =
    ind {r = Same} {β = λ a. T (positive a) → T (positive b) → T (positive (mul a b))} (λ a. Π_prop (λ p. Π_prop (λ q. T_prop (positive (mul a b)))))
    (λ x. ind {r = Same} {β = λ b. T (is_positive x.num) → T (positive b) → T (positive (mul (mk x) b))} (λ b. Π_prop (λ p. Π_prop (λ q. T_prop (positive (mul (mk x) b))))) (λ y p q. mul-positive x.num y.num p q) b) a

over-above : (n d : ℤ) (p : T (is_positive d)) → T (is_positive n) → T (is_positive (over n d p).num)
over-above (pos zero) d p h = h
over-above (pos (suc n)) d p h = p
over-above (negsuc n) d p h = absurd h

pub inv-above : (a : Rational) → T (positive a) → T (positive (inv a))
unfolding inv positive
inv-above = ind {r = Same} (λ a. Π_prop (λ p. T_prop (positive (inv a)))) (λ x p. over-above x.num x.den x.positive p)

pub one-above : T (positive (cast 1))
unfolding positive
one-above = tt

pub zero-not-above : ¬ T (positive (cast 0))
unfolding positive
zero-not-above h = h

abbrev pub rational_ordered : Ordered
rational_ordered = record {
  field = rational_field;
  Positive = λ a. T (positive a);
  zero-not = zero-not-above;
  one-positive = one-above;
  add-positive = add-above;
  mul-positive = mul-above;
  inv-positive = inv-above;
}

-- the negative of a difference
neg-difference : (x y : Fraction) → neg_ℤ (x.num *ℤ y.den +ℤ neg_ℤ y.num *ℤ x.den) ≡ y.num *ℤ x.den +ℤ neg_ℤ x.num *ℤ y.den
neg-difference x y =
    neg_ℤ-+ℤ (x.num *ℤ y.den) (neg_ℤ y.num *ℤ x.den)
    ∙ ap₂ (λ s t. s +ℤ t) (sym (neg-mul x.num y.den)) (ap neg_ℤ (neg-mul y.num x.den) ∙ neg_ℤ-neg_ℤ (y.num *ℤ x.den))
    ∙ +ℤ_comm (neg_ℤ x.num *ℤ y.den) (y.num *ℤ x.den)

pub connected : (a b : Rational) → AtMost rational_ordered a b → AtMost rational_ordered b a → a ≡ b
unfolding add neg positive
connected a b =
    ind {r = Same} {β = λ a. AtMost rational_ordered a b → AtMost rational_ordered b a → a ≡ b} (λ a. Π_prop (λ p. Π_prop (λ q. Quot-set a b)))
    (λ x. ind {r = Same} {β = λ b. AtMost rational_ordered (mk x) b → AtMost rational_ordered b (mk x) → mk x ≡ b} (λ b. Π_prop (λ p. Π_prop (λ q. Quot-set (mk x) b)))
    (λ y p q. sound (RingLaws.same integers (x.num *ℤ y.den) (y.num *ℤ x.den)
    (ap (λ t. x.num *ℤ y.den +ℤ t) (sym (neg-mul y.num x.den))
    ∙ no_sign (x.num *ℤ y.den +ℤ neg_ℤ y.num *ℤ x.den) p (λ h. q (subst (λ t. T (is_positive t)) (neg-difference x y) h)))))
    b) a

-- the rational numbers, with the test whether a difference is positive
abbrev pub rationals : LinearOrdered
rationals = record {
  ordered = rational_ordered;
  less = λ a b. positive (add b (neg a));
  less-below = λ a b p. p;
  below_less = λ a b p. p;
  connected = connected;
}
