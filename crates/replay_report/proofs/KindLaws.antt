-- A table of numbers and kinds: std's `find`, then the kind of the pair, gives what the number names. Assumes nothing.
use Rattle.std.specs.Prelude.{ℕ, eqb}
use denote.Ref.{Bor}
use mathlib.Core.Path.{◌≡◌, ◌∙◌, ap, refl, sym}
use mathlib.Core.Bool.{Bool, true, false, cond}
use mathlib.Core.List.{List, [], ◌∷◌}
use Rattle.std.specs.List.{find}
use Rattle.std.specs.Option.{MatchOption, option_map}
use Rattle.std.specs.declared.option.Option.{Option}
use Rattle.std.specs.declared.option.Option.TheVariants.{Some, None}
use Rattle.replay_report.specs.Report.{kind_of}

turn : {K : Type 0} (b : Bool) (pair : ℕ × K) (found : Option (ℕ × K)) (named : Option K) → named ≡ option_map (λ (p : ℕ × K). p.1) found
    → cond b (Some pair.1) named ≡ option_map (λ (p : ℕ × K). p.1) (cond b (Some pair) found)
turn true pair found named rest = refl
turn false pair found named rest = rest

kind-found : {K : Type 0} (kinds : List (ℕ × K)) (number : ℕ) → kind_of kinds number ≡ option_map (λ (p : ℕ × K). p.1) (find (λ (p : ℕ × K). eqb p.0 number) kinds)
unfolding kind_of
kind-found [] number = refl
kind-found (pair ∷ kinds) number = turn (eqb pair.0 number) pair (find (λ p. eqb p.0 number) kinds) (kind_of kinds number) (kind-found kinds number)

-- where the pair that is found gives the kind
pub kind-mapped : {K : Type 0} (kinds : List (ℕ × K)) (number : ℕ) (found : Option (Bor (ℕ × K))) (named : Option K)
    → MatchOption found (named ≡ None) (λ pair. named ≡ Some pair.now.1) → option_map (λ pair. pair.now) found ≡ find (λ (p : ℕ × K). eqb p.0 number) kinds → named ≡ kind_of kinds number
kind-mapped {K} kinds number None named m f = m ∙ ap (λ (o : Option (ℕ × K)). option_map (λ (p : ℕ × K). p.1) o) f ∙ sym (kind-found kinds number)
kind-mapped {K} kinds number (Some pair) named m f = m ∙ ap (λ (o : Option (ℕ × K)). option_map (λ (p : ℕ × K). p.1) o) f ∙ sym (kind-found kinds number)
