-- Commutative rings and fields: a type, its operations, and their laws.
use Rattle.std.specs.Prelude.{◌≡◌, ◌≢◌, Bool, T}

pub record Ring : Type 1 where
  pub C : Type 0
  pub zero : C
  pub one : C
  pub add : C → C → C
  pub neg : C → C
  pub mul : C → C → C
  pub add_assoc : (a b c : C) → add (add a b) c ≡ add a (add b c)
  pub add_comm : (a b : C) → add a b ≡ add b a
  pub add-zero : (a : C) → add a zero ≡ a
  pub add-neg : (a : C) → add a (neg a) ≡ zero
  pub mul_assoc : (a b c : C) → mul (mul a b) c ≡ mul a (mul b c)
  pub mul_comm : (a b : C) → mul a b ≡ mul b a
  pub mul-one : (a : C) → mul a one ≡ a
  pub mul-add : (a b c : C) → mul a (add b c) ≡ add (mul a b) (mul a c)

-- a commutative ring in which every element but 0 has an inverse
pub record Field : Type 1 where
  pub ring : Ring
  pub inv : ring.C → ring.C
  pub mul-inv : (a : ring.C) → a ≢ ring.zero → ring.mul a (inv a) ≡ ring.one

-- a field with a strict order, by its positive elements
pub record Ordered : Type 1 where
  pub field : Field
  pub Positive : field.ring.C → Type 0
  pub zero-not : ¬ Positive field.ring.zero
  pub one-positive : Positive field.ring.one
  pub add-positive : (a b : field.ring.C) → Positive a → Positive b → Positive (field.ring.add a b)
  pub mul-positive : (a b : field.ring.C) → Positive a → Positive b → Positive (field.ring.mul a b)
  pub inv-positive : (a : field.ring.C) → Positive a → Positive (field.inv a)

-- a is below b
abbrev pub Below : (O : Ordered) → O.field.ring.C → O.field.ring.C → Type 0
Below O a b = O.Positive (O.field.ring.add b (O.field.ring.neg a))

-- a is at most b: b is not below a
abbrev pub AtMost : (O : Ordered) → O.field.ring.C → O.field.ring.C → Type 0
AtMost O a b = ¬ Below O b a

-- an ordered field with a test of its order, where of two elements one is below the other or they are the same
pub record LinearOrdered : Type 1 where
  pub ordered : Ordered
  pub less : ordered.field.ring.C → ordered.field.ring.C → Bool
  pub less-below : (a b : ordered.field.ring.C) → T (less a b) → Below ordered a b
  pub below_less : (a b : ordered.field.ring.C) → Below ordered a b → T (less a b)
  pub connected : (a b : ordered.field.ring.C) → AtMost ordered a b → AtMost ordered b a → a ≡ b
