-- The answer by the number of the first no, and the number of an answer. Assumes nothing.
use mathlib.Core.Path.{◌≡◌, refl, ap, ◌∙◌}
use mathlib.Core.Bool.{Bool, true, false, ◌&&◌}
use mathlib.Core.List.{List, [], ◌∷◌, ◌++◌}
use Prim.Native.Nat.{ℕ, zero, suc, ◌+◌, ◌≤◌, ◌<◌}
use native.Mathlib.Omega.{arith}
use lib.Dec.{leb, eqb}
use lib.ListN.{length, get_or}
use borrow.Author.Tests.{leb-true, eqb-true}
use Rattle.std.specs.declared.result.Result.{Result}
use Rattle.std.specs.declared.result.Result.TheVariants.{Ok, Err}
use Rattle.std.specs.Result.{IsErrAnd}
use Rattle.ask.specs.Ask.{Question, asks, first_no, after_call}
use Rattle.ask.proofs.AskLaws.{group-no}
use Rattle.ask.specs.Refusals.{refusal_number, refusals, refusal_of, answer_of, number_of, are_numbers}
use Rattle.ask.specs.declared.refusal.Refusal.{Refusal}
use Rattle.ask.specs.declared.refusal.Refusal.TheVariants as refusal

-- ---- both of two tests

left : (a b : Bool) → (a && b) ≡ true → a ≡ true
left true b e = refl
left false b e = e

right : (a b : Bool) → (a && b) ≡ true → b ≡ true
right true b e = e
right false b e = absurd (cc e)

-- ---- the number of an answer

-- each refusal has the number of its place, counted from k
in_order : List Refusal → ℕ → Bool
in_order [] k = true
in_order (why ∷ rest) k = eqb (refusal_number why) k && in_order rest (suc k)

at-place : (l : List Refusal) (k n : ℕ) → in_order l k ≡ true → n < length l → refusal_number (get_or l n refusal.Cones) ≡ k + n
unfolding in_order
at-place [] k n e h = absurd (omega (arith, h))
at-place (why ∷ rest) k zero e h = eqb-true (refusal_number why) k (left (eqb (refusal_number why) k) (in_order rest (suc k)) e) ∙ omega arith
at-place (why ∷ rest) k (suc n) e h = at-place rest (suc k) n (right (eqb (refusal_number why) k) (in_order rest (suc k)) e) (omega (arith, h)) ∙ omega arith

pub number-back : (n : ℕ) → suc n ≤ 25 → refusal_number (refusal_of (suc n)) ≡ suc n
unfolding in_order
number-back n h = at-place refusals 1 n refl h ∙ omega arith

pub number-is : {A : Type 0} (n : ℕ) (given : A) → n ≤ 25 → number_of (answer_of n given) ≡ n
number-is zero given h = refl
number-is (suc n) given h = number-back n h

-- the first no of questions whose numbers are at most 25
pub first-low : (qs : List Question) → are_numbers qs ≡ true → first_no qs ≤ 25
unfolding first_no
first-low [] e = omega arith
first-low (asks n true ∷ qs) e = first-low qs (right (leb n 25) (are_numbers qs) e)
first-low (asks n false ∷ qs) e = leb-true n 25 (left (leb n 25) (are_numbers qs) e)

-- ---- what an answer says of the first no

-- a call that gives something
pub given-is : {A : Type 0} (n : ℕ) (x given : A) → Ok x ≡ answer_of n given → (n ≡ 0) × (x ≡ given)
given-is zero x given e = (refl, cc e)
given-is (suc n) x given e = absurd (cc e)

-- a call that is refused
pub refused-not : {A : Type 0} (n : ℕ) (why : Refusal) (given : A) → Err why ≡ answer_of n given → n ≡ 0 → ⊥
refused-not zero why given e z = absurd (cc e)
refused-not (suc n) why given e z = absurd (omega arith)

-- the answer of a call whose questions are all answered yes
pub done-is : {A : Type 0} (n : ℕ) (given : A) → n ≡ 0 → Ok given ≡ answer_of n given
done-is zero given e = refl
done-is (suc n) given e = absurd (omega arith)

-- a refusal handed on
pub refused-is : {A B : Type 0} (n m : ℕ) (why : Refusal) (given : A) (other : B) → Err why ≡ answer_of n given → m ≡ n → Err why ≡ answer_of m other
refused-is zero m why given other e h = absurd (cc e)
refused-is (suc n) m why given other e h = rw h (hand e)
  where
    hand : Err why ≡ answer_of (suc n) given → Err why ≡ answer_of (suc n) other
    hand e = cc e

-- the same of a group of questions before others
pub group-refused : {A B : Type 0} (qs rest : List Question) (why : Refusal) (given : A) (other : B) → Err why ≡ answer_of (first_no qs) given → Err why ≡ answer_of (first_no (qs ++ rest)) other
group-refused qs rest why given other e = refused-is _ _ why given other e (group-no qs rest (refused-not _ why given e))

-- what a `?` returns, where it hands the error on as it is
pub handed-on : {A E : Type 0} {why : E} (r : Result A E) → IsErrAnd r (λ y. y ≡ why) → r ≡ Err why
handed-on (Ok x) h = absurd h
handed-on (Err y) h = ap Err h

-- ---- a status and a value behind a reference, from the answer of a call

-- the status of a call that gives something, and f of what it gives behind a reference
pub given-told : {A B : Type 0} (n : ℕ) (x given : A) (f : A → B) (old : B) → Ok x ≡ answer_of n given → (0 ≡ n) × (f x ≡ after_call n (f given) old)
given-told zero x given f old e = let p : x ≡ given = cc e in (refl, rw p)
given-told (suc n) x given f old e = absurd (cc e)

-- the status of a call that is refused, which leaves what was there
pub refused-told : {A B : Type 0} (n : ℕ) (why : Refusal) (given : A) (new old : B) → n ≤ 25 → Err why ≡ answer_of n given → (refusal_number why ≡ n) × (old ≡ after_call n new old)
refused-told zero why given new old h e = absurd (cc e)
refused-told (suc n) why given new old h e = let p : why ≡ refusal_of (suc n) = cc e in (rw p (number-back n h), refl)
