-- Counts of tests that overlap, and exactly one by count. Assumes nothing.
use mathlib.Core.Path.{◌≡◌, refl, sym, ap, ◌∙◌}
use mathlib.Core.Bool.{Bool, true, false}
use mathlib.Core.Logic.{◌⊎◌, inl, inr, ⊎_elim}
use Prim.Native.Nat.{ℕ, zero, suc, ◌+◌, ◌≤◌, ◌<◌}
use native.Mathlib.Numerals.{add-one}
use native.Mathlib.Omega.{arith}
use Rattle.std.specs.Int.{from_bool}
use Rattle.list_laws.specs.Lists.{one_if, count_below}
use Rattle.list_laws.specs.Matching.{ExactlyOne}
use Rattle.list_laws.proofs.BoolLaws.{clash, true-or-false, lt-or-le}
use Rattle.list_laws.proofs.CountLaws.{count_none}
use Rattle.list_laws.proofs.MapLaws.{count_next}

-- exactly one is counted as one
pub counted-one : (n : ℕ) (p : ℕ → Bool) → ExactlyOne n (λ k. p k ≡ true) → count_below n p ≡ 1
unfolding count_below
counted-one zero p o = absurd (omega (arith, o.below))
counted-one (suc n) p o =
    ⊎_elim
    (λ t. let same : n ≡ o.which = o.only n (omega arith) t in
    let one : one_if (p n) ≡ 1 = rw t in
    omega (arith, count_none n p (λ k l. not-other k l (true-or-false (p k)) same)))
    (λ t. let no : one_if (p n) ≡ 0 = rw t in
    omega (arith, counted-one n p (before t)))
    (true-or-false (p n))
  where
    not-other : (k : ℕ) → k < n → (p k ≡ true) ⊎ (p k ≡ false) → n ≡ o.which → p k ≡ false
    not-other k l s same = ⊎_elim (λ t. absurd (omega (arith, o.only k (omega arith) t))) (λ t. t) s

    before : p n ≡ false → ExactlyOne n (λ k. p k ≡ true)
    before t = record {
      which = o.which;
      below =
          ⊎_elim (λ l. l) (λ l. let same : o.which ≡ n = omega (arith, o.below) in clash (sym t ∙ (rw same at o.holds))) (lt-or-le o.which n);
      holds = o.holds;
      only = λ k l q. o.only k (omega arith) q;
    }

-- exactly one has what follows from the property and gives it
pub exactly_as : (n : ℕ) (P Q : ℕ → Type 0) → ((k : ℕ) → k < n → P k → Q k) → ((k : ℕ) → k < n → Q k → P k) → ExactlyOne n P → ExactlyOne n Q
exactly_as n P Q f g o = record {
  which = o.which;
  below = o.below;
  holds = f o.which o.below o.holds;
  only = λ k h q. o.only k h (g k h q);
}

-- one of two tests passed
one_of_two : (x y : Bool) → 1 ≤ one_if x + one_if y → (x ≡ true) ⊎ (y ≡ true)
one_of_two true y l = inl refl
one_of_two false true l = inr refl
one_of_two false false l = absurd (omega arith)

module _ (h a b : ℕ → Bool) where
  -- h wherever a or b, and no place passes both: h is counted at least as often as both
  pub count-least : (n : ℕ) → ((k : ℕ) → one_if (a k) + one_if (b k) ≤ one_if (h k)) → count_below n a + count_below n b ≤ count_below n h
  unfolding count_below
  count-least zero e = omega arith
  count-least (suc n) e = omega (arith, count-least n e, e n)

  -- a or b wherever h: at most as often
  pub count-most : (n : ℕ) → ((k : ℕ) → k < n → h k ≡ true → (a k ≡ true) ⊎ (b k ≡ true)) → count_below n h ≤ count_below n a + count_below n b
  unfolding count_below
  count-most zero e = omega arith
  count-most (suc n) e = omega (arith, count-most n (λ k l. e k (omega arith)), last (true-or-false (h n)))
    where
      last : (h n ≡ true) ⊎ (h n ≡ false) → one_if (h n) ≤ one_if (a n) + one_if (b n)
      last s =
          ⊎_elim
          (λ t. let one : one_if (h n) ≡ 1 = rw t in
          ⊎_elim (λ u. let this : one_if (a n) ≡ 1 = rw u in omega arith) (λ u. let this : one_if (b n) ≡ 1 = rw u in omega arith) (e n (omega arith) t))
          (λ t. let no : one_if (h n) ≡ 0 = rw t in omega arith)
          s

  -- and where the counts agree, each place that passes h passes a or b
  pub covered : (n : ℕ) → ((k : ℕ) → one_if (a k) + one_if (b k) ≤ one_if (h k)) → count_below n h ≤ count_below n a + count_below n b
      → (k : ℕ) → k < n → h k ≡ true → (a k ≡ true) ⊎ (b k ≡ true)
  unfolding count_below
  covered zero e c k l t = absurd (omega arith)
  covered (suc n) e c k l t =
      ⊎_elim
      (λ g. covered n e (omega (arith, e n, c)) k g t)
      (λ g. let same : k ≡ n = omega arith in
      let one : one_if (h n) ≡ 1 = rw (← same, t) in
      rw same (one_of_two (a n) (b n) (omega (arith, count-least n e, c))))
      (lt-or-le k n)

-- ---- a count that grows by a bool as a number

-- what std says of a bool as a number, in the words of a count
pub one-byte : (b : Bool) → from_bool b ≡ one_if b
one-byte false = refl
one-byte true = refl

-- one more place: the count stays small, and is that of the places up to this one
pub counted_next : (n m : ℕ) (p : ℕ → Bool) (b : Bool) → m ≡ count_below n p → (one : ℕ) → one ≡ from_bool b → b ≡ p n → (m + one ≤ n + 1) × (m + one ≡ count_below (n + 1) p)
counted_next n m p b e one f g =
    let next : _ = count_next n m p e one (f ∙ one-byte b ∙ ap one_if g) in (next.0, rw add-one next.1)
