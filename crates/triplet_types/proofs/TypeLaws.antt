-- The type that a number names, its output channels, and that they are at most three. Assumes nothing.
use mathlib.Core.Path.{◌≡◌, refl, sym, ap, ◌∙◌}
use mathlib.Core.Bool.{Bool, true, false, cond}
use Prim.Native.Nat.{ℕ, ◌≤◌}
use native.Mathlib.Omega.{arith}
use lib.IntN.{ℤ, pos, negsuc}
use Rattle.std.proofs.Common.{Ok, Err}
use Rattle.ask.specs.Ask.{first_no}
use Rattle.ask.proofs.AskLaws.{all_yes}
use Rattle.ask.proofs.RefusalLaws.{given-is, refused-not}
use Rattle.ask.specs.declared.refusal.Refusal.{Refusal}
use Rattle.ask.specs.declared.refusal.Refusal.TheVariants as refusal
use Rattle.list_laws.specs.Signed.{is_nat, is_between}
use Rattle.list_laws.proofs.EqualLaws.{nat-pos}
use Rattle.list_laws.proofs.SignedLaws.{between-low, between-high}
use Rattle.question_values.specs.TpTypes.{channels_of, is_tp_type}
use Rattle.triplet_types.specs.declared.TpType.{TpType}
use Rattle.triplet_types.specs.declared.TpType.TheVariants.{Type2, Type3, Type4}
use Rattle.triplet_types.specs.Types.{tp_type_of, type_questions, tp_type_answer, channel_count}

-- ---- the type that a number names

other-number : (z : ℤ) (n : ℕ) → (z ≡ pos n → ⊥) → is_nat z n ≡ false
other-number z n h = go (is_nat z n) refl
  where
    go : (b : Bool) → is_nat z n ≡ b → b ≡ false
    go true e = absurd (h (nat-pos z n e))
    go false e = refl

pub names-two : (z : ℤ) → z ≡ pos 2 → Type2 ≡ tp_type_of z
unfolding tp_type_of is_nat
names-two z e = rw e refl

pub names-three : (z : ℤ) → z ≡ pos 3 → Type3 ≡ tp_type_of z
unfolding tp_type_of is_nat
names-three z e = rw e refl

pub names-four : (z : ℤ) → (z ≡ pos 2 → ⊥) → (z ≡ pos 3 → ⊥) → Type4 ≡ tp_type_of z
unfolding tp_type_of
names-four z two three = rw (other-number z 2 two, other-number z 3 three) refl

-- ---- the answer to question 8

pub answers-two : (z : ℤ) → z ≡ pos 2 → Ok Type2 ≡ tp_type_answer z
unfolding first_no is_tp_type is_between tp_type_of is_nat
answers-two z e = rw e refl

pub answers-three : (z : ℤ) → z ≡ pos 3 → Ok Type3 ≡ tp_type_answer z
unfolding first_no is_tp_type is_between tp_type_of is_nat
answers-three z e = rw e refl

pub answers-four : (z : ℤ) → z ≡ pos 4 → Ok Type4 ≡ tp_type_answer z
unfolding first_no is_tp_type is_between tp_type_of is_nat
answers-four z e = rw e refl

no-type : (z : ℤ) → (z ≡ pos 2 → ⊥) → (z ≡ pos 3 → ⊥) → (z ≡ pos 4 → ⊥) → is_tp_type z ≡ false
unfolding is_tp_type is_between
no-type (pos k) two three four = go (is_between 2 4 (pos k)) refl
  where
    go : (b : Bool) → is_between 2 4 (pos k) ≡ b → b ≡ false
    go true e =
        let n2 : k ≡ 2 → ⊥ = λ q. two (ap pos q) in
        let n3 : k ≡ 3 → ⊥ = λ q. three (ap pos q) in
        let n4 : k ≡ 4 → ⊥ = λ q. four (ap pos q) in
        let low : 2 ≤ k = between-low 2 4 (pos k) e in
        let high : k ≤ 4 = between-high 2 4 (pos k) e in
        absurd (omega arith)
    go false e = refl
no-type (negsuc k) two three four = refl

pub answers-none : (z : ℤ) → (z ≡ pos 2 → ⊥) → (z ≡ pos 3 → ⊥) → (z ≡ pos 4 → ⊥) → Err refusal.TpType ≡ tp_type_answer z
unfolding first_no
answers-none z two three four = rw (no-type z two three four) refl

-- a number that was answered with a type has passed question 8, and names it
pub type-given : (z : ℤ) (tp : TpType) → Ok tp ≡ tp_type_answer z → (is_tp_type z ≡ true) × (tp ≡ tp_type_of z)
type-given z tp e =
    let g = given-is (first_no (type_questions z)) tp (tp_type_of z) e in
    ((all_yes (type_questions z) (omega arith, tt) g.0).0, g.1)

-- one that was answered with a refusal has not
pub type-refused : (z : ℤ) (why : Refusal) → Err why ≡ tp_type_answer z → is_tp_type z ≡ false
unfolding first_no
type-refused z why e = go (is_tp_type z) refl
  where
    go : (b : Bool) → is_tp_type z ≡ b → b ≡ false
    go true p = absurd (refused-not (first_no (type_questions z)) why (tp_type_of z) e (rw p refl))
    go false p = refl

-- ---- its output channels

-- the outputs of the type that a number names are as many as question 12 counts
pub channels-of-type : (tp : ℤ) → channels_of tp ≡ channel_count (tp_type_of tp)
unfolding channels_of tp_type_of
channels-of-type tp = by (is_nat tp 2) (is_nat tp 3)
  where
    by : (a b : Bool) → cond a 2 (cond b 3 1) ≡ channel_count (cond a Type2 (cond b Type3 Type4))
    by true b = refl
    by false true = refl
    by false false = refl

-- those of a type that is known to be it
pub channels-named : (z : ℤ) (tp : TpType) → tp ≡ tp_type_of z → channel_count tp ≡ channels_of z
channels-named z tp e = ap channel_count e ∙ sym (channels-of-type z)

-- a type has at most three outputs
pub channel-count-le : (tp : TpType) → channel_count tp ≤ 3
channel-count-le Type2 = omega arith
channel-count-le Type3 = omega arith
channel-count-le Type4 = omega arith

-- by one name, for the attributes of functions
pub ruleset type_laws = (names-two, names-three, names-four)

pub ruleset answer_laws = (answers-two, answers-three, answers-four, answers-none)

pub ruleset given_laws = (type-given, type-refused)
