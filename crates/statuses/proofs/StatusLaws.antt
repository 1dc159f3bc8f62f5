-- The status of an answer is the number of the first no. Assumes nothing.
use mathlib.Core.Path.{◌≡◌, refl, ap, ◌∙◌}
use mathlib.Core.Bool.{true}
use mathlib.Core.List.{List}
use Prim.Native.Nat.{ℕ, zero, suc}
use Rattle.std.specs.Result.{MatchResult, is_ok}
use Rattle.std.specs.declared.result.Result.{Result}
use Rattle.std.specs.declared.result.Result.TheVariants.{Ok, Err}
use Rattle.ask.specs.Ask.{Question, first_no, after_call}
use Rattle.ask.specs.Refusals.{answer_of, number_of, are_numbers}
use Rattle.ask.specs.declared.refusal.Refusal.{Refusal}
use Rattle.statuses.specs.Statuses.{stored_of}
use Rattle.ask.proofs.RefusalLaws.{first-low, number-is}

pub status-is : {A : Type 0} (qs : List Question) (given : A) (answer : Result A Refusal) (status : ℕ) → are_numbers qs ≡ true → answer ≡ answer_of (first_no qs) given → status ≡ number_of answer → status ≡ first_no qs
status-is qs given answer status low is told = told ∙ (ap number_of is ∙ number-is (first_no qs) given (first-low qs low))

-- what stands behind the reference
pub stored-is : {A : Type 0} (n : ℕ) (given old : A) (answer : Result A Refusal) → answer ≡ answer_of n given → stored_of answer old ≡ after_call n given old
stored-is zero given old answer is = rw is refl
stored-is (suc n) given old answer is = rw is refl

-- a function of what the call gives leaves the number
pub mapped-number : {A B : Type 0} (P : A → Type 0) (answer : Result A Refusal) (mapped : Result B Refusal) → MatchResult answer P (λ why. mapped ≡ Err why) → is_ok mapped ≡ is_ok answer → number_of mapped ≡ number_of answer
mapped-number P (Ok x) (Ok y) cases same = refl
mapped-number P (Ok x) (Err why) cases same = absurd (cc same)
mapped-number P (Err why) mapped cases same = ap number_of cases
