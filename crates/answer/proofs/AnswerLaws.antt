-- The answer by its number. Assumes nothing.
use mathlib.Core.Path.{◌≡◌, refl}
use mathlib.Core.Bool.{true}
use Prim.Native.Nat.{ℕ, zero, suc, ◌+◌, ◌≤◌, ◌<◌}
use native.Mathlib.Omega.{arith}
use lib.IntN.{ℤ}
use lib.ListN.{length}
use lib.Signed.{mag}
use Rattle.list_laws.specs.Signed.{is_between}
use Rattle.list_laws.proofs.SignedLaws.{between-high}
use Rattle.ask.specs.Ask.{first_no}
use Rattle.listing.specs.Listings.{refusal_of}
use Rattle.listing_length.proofs.ListingLengthLaws.{refusal-short}
use Rattle.triplet_study.specs.Study.{Study}
use Rattle.answer_weights.specs.Asked.{questions_of}
use Rattle.answer_weights.specs.Answers.{answer_to}

pub diagonal-lt : (z : ℤ) → is_between 0 3 z ≡ true → mag z < 4
diagonal-lt z e = omega (arith, between-high 0 3 z e)

pub refusal-room : (n : ℕ) → 0 + length (refusal_of n) ≤ 118617
refusal-room n = omega (arith, refusal-short n)

module _ (s : Study) where
  pub answer-refused : (n : ℕ) → n ≡ first_no (questions_of s) → (n ≡ 0 → ⊥) → refusal_of n ≡ answer_to s
  unfolding answer_to
  answer-refused zero e h = absurd (h refl)
  answer-refused (suc n) e h = rw (← e)

-- what `grind` is given at a function
pub ruleset asking_laws = (diagonal-lt, refusal-room)
