-- What the sort of four values gives: the same values, the first at its place, and, of values that are no NaN, in ascending order. Assumes nothing.
use mathlib.Core.Path.{◌≡◌, refl}
use mathlib.Core.Bool.{Bool, true, false, cond}
use mathlib.Core.List.{List, [], ◌∷◌}
use Prim.Native.Nat.{ℕ, ◌+◌, ◌<◌}
use native.Mathlib.Omega.{arith}
use lib.ListN.{get_or}
use lib.Ieee.{Float, nan, lt, is_nan}
use Rattle.tetrahedron_sort.specs.Sort.{low2, high2, sorted4, place_by, sorted_of, place_of}
use Rattle.ieee_laws.proofs.OrderLaws.{lt-asym, lt_irrefl, not-above-trans}

-- ---- the same values: any count over them is the same
module _ (q : Float → ℕ) where
  both : (t : Bool) (x y : Float) → q (cond t y x) + q (cond t x y) ≡ q x + q y
  both true x y = omega arith
  both false x y = refl

  pair : (x y : Float) → q (low2 x y) + q (high2 x y) ≡ q x + q y
  pair x y = both (lt y x) x y

  -- the sum of q over four values; with q the count of one value it is how often that one is among them
  abbrev pub over : List Float → ℕ
  over v = q (get_or v 0 nan) + q (get_or v 1 nan) + q (get_or v 2 nan) + q (get_or v 3 nan)

  same-values-4 : (a b c d : Float) → over (sorted4 a b c d) ≡ q a + q b + q c + q d
  same-values-4 a b c d =
      omega (
        arith,
        pair a b,
        pair c d,
        pair (low2 a b) (low2 c d),
        pair (high2 a b) (high2 c d),
        pair (high2 (low2 a b) (low2 c d)) (low2 (high2 a b) (high2 c d)),
      )

  pub same-values : (v : List Float) → over (sorted_of v) ≡ over v
  unfolding sorted_of
  same-values v = same-values-4 (get_or v 0 nan) (get_or v 1 nan) (get_or v 2 nan) (get_or v 3 nan)

-- ---- the first value stands at its place, by which tests passed
placed : (t1 t2 t3 t4 t5 : Bool) (a b c d : Float) →
    get_or
    (cond t3 (cond t2 d c) (cond t1 b a)
    ∷ cond t5 (cond t4 (cond t2 c d) (cond t1 a b)) (cond t3 (cond t1 b a) (cond t2 d c))
    ∷ cond t5 (cond t3 (cond t1 b a) (cond t2 d c)) (cond t4 (cond t2 c d) (cond t1 a b))
    ∷ cond t4 (cond t1 a b) (cond t2 c d)
    ∷ [])
    (place_by t1 t3 t4 t5) nan
    ≡ a
placed true t2 t3 true t5 a b c d = refl
placed true t2 t3 false true a b c d = refl
placed true t2 t3 false false a b c d = refl
placed false t2 false t4 t5 a b c d = refl
placed false t2 true t4 true a b c d = refl
placed false t2 true t4 false a b c d = refl

pub first-at-place : (v : List Float) → get_or (sorted_of v) (place_of v) nan ≡ get_or v 0 nan
unfolding sorted_of place_of
first-at-place v =
    let a = get_or v 0 nan in
    let b = get_or v 1 nan in
    let c = get_or v 2 nan in
    let d = get_or v 3 nan in
    placed (lt b a) (lt d c) (lt (low2 c d) (low2 a b)) (lt (high2 c d) (high2 a b))
    (lt (low2 (high2 a b) (high2 c d)) (high2 (low2 a b) (low2 c d))) a b c d

-- the place is one of 0, 1, 2, 3
within : (t1 t3 t4 t5 : Bool) → place_by t1 t3 t4 t5 < 4
within true t3 true t5 = omega arith
within true t3 false true = omega arith
within true t3 false false = omega arith
within false false t4 t5 = omega arith
within false true t4 true = omega arith
within false true t4 false = omega arith

pub place-lt : (v : List Float) → place_of v < 4
unfolding place_of
place-lt v =
    let a = get_or v 0 nan in
    let b = get_or v 1 nan in
    let c = get_or v 2 nan in
    let d = get_or v 3 nan in
    within (lt b a) (lt (low2 c d) (low2 a b)) (lt (high2 c d) (high2 a b))
    (lt (low2 (high2 a b) (high2 c d)) (high2 (low2 a b) (low2 c d)))

-- ---- in order
infix 4 ◌≼◌
abbrev pub ◌≼◌ : Float → Float → Type 0
x ≼ y = lt y x ≡ false

either : (P : Float → Type 0) (t : Bool) (x y : Float) → P x → P y → P (cond t x y)
either P true x y p r = p
either P false x y p r = r

low≼left : (x y : Float) → low2 x y ≼ x
low≼left x y = go (lt y x) refl
  where
    go : (t : Bool) → lt y x ≡ t → cond t y x ≼ x
    go true e = lt-asym y x e
    go false e = lt_irrefl x

low≼right : (x y : Float) → low2 x y ≼ y
low≼right x y = go (lt y x) refl
  where
    go : (t : Bool) → lt y x ≡ t → cond t y x ≼ y
    go true e = lt_irrefl y
    go false e = e

left≼high : (x y : Float) → x ≼ high2 x y
left≼high x y = go (lt y x) refl
  where
    go : (t : Bool) → lt y x ≡ t → x ≼ cond t x y
    go true e = lt_irrefl x
    go false e = e

right≼high : (x y : Float) → y ≼ high2 x y
right≼high x y = go (lt y x) refl
  where
    go : (t : Bool) → lt y x ≡ t → y ≼ cond t x y
    go true e = lt-asym y x e
    go false e = lt_irrefl y

low≼high : (x y : Float) → low2 x y ≼ high2 x y
low≼high x y = go (lt y x) refl
  where
    go : (t : Bool) → lt y x ≡ t → cond t y x ≼ cond t x y
    go true e = lt-asym y x e
    go false e = e

-- no NaN
abbrev pub Number : Float → Type 0
Number x = is_nan x ≡ false

-- each of four values is not above the next
pub record Ascending (v : List Float) : Type 0 where
  pub first : get_or v 0 nan ≼ get_or v 1 nan
  pub second : get_or v 1 nan ≼ get_or v 2 nan
  pub third : get_or v 2 nan ≼ get_or v 3 nan

ascending-4 : (a b c d : Float) → Number a → Number b → Number c → Number d → Ascending (sorted4 a b c d)
ascending-4 a b c d A B C D =
    let w0 = low2 a b in
    let w1 = high2 a b in
    let w2 = low2 c d in
    let w3 = high2 c d in
    let lo = low2 w0 w2 in
    let hi = high2 w1 w3 in
    let n0 : Number w0 = either Number (lt b a) b a B A in
    let n1 : Number w1 = either Number (lt b a) a b A B in
    let n2 : Number w2 = either Number (lt d c) d c D C in
    let n3 : Number w3 = either Number (lt d c) c d C D in
    let lo≼m1 : lo ≼ high2 w0 w2 = low≼high w0 w2 in
    let lo≼m2 : lo ≼ low2 w1 w3 = either (λ (z : Float). lo ≼ z) (lt w3 w1) w3 w1
    (not-above-trans lo w2 w3 n2 (low≼right w0 w2) (low≼high c d))
    (not-above-trans lo w0 w1 n0 (low≼left w0 w2) (low≼high a b)) in
    let m2≼hi : low2 w1 w3 ≼ hi = low≼high w1 w3 in
    let m1≼hi : high2 w0 w2 ≼ hi = either (λ (z : Float). z ≼ hi) (lt w2 w0) w0 w2
    (not-above-trans w0 w1 hi n1 (low≼high a b) (left≼high w1 w3))
    (not-above-trans w2 w3 hi n3 (low≼high c d) (right≼high w1 w3)) in
    record {
      first = either (λ (z : Float). lo ≼ z) (lt (low2 w1 w3) (high2 w0 w2)) (low2 w1 w3) (high2 w0 w2) lo≼m2 lo≼m1;
      second = low≼high (high2 w0 w2) (low2 w1 w3);
      third = either (λ (z : Float). z ≼ hi) (lt (low2 w1 w3) (high2 w0 w2)) (high2 w0 w2) (low2 w1 w3) m1≼hi m2≼hi;
    }

-- a row with no NaN comes in ascending order
pub ascending : (v : List Float) → Number (get_or v 0 nan) → Number (get_or v 1 nan) → Number (get_or v 2 nan) → Number (get_or v 3 nan) → Ascending (sorted_of v)
unfolding sorted_of
ascending v A B C D = ascending-4 (get_or v 0 nan) (get_or v 1 nan) (get_or v 2 nan) (get_or v 3 nan) A B C D
