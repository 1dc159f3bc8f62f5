-- What a replay counts.
use Rattle.std.specs.Prelude.{ℕ, suc, zero, ◌+◌, ◌&&◌, cond, List, [], ◌∷◌, eqb, ltb, get_or, set}
use Rattle.std.specs.declared.result.Result.{Result}
use Rattle.std.specs.declared.result.Result.TheVariants.{Ok, Err}
use Rattle.std.specs.declared.option.Option.{Option}
use Rattle.std.specs.declared.option.Option.TheVariants.{Some, None}

-- the answer that a stored refusal, 0 for none, and a stored value stand for
abbrev pub stored_answer : {A : Type 0} → ℕ → A → Result A ℕ
stored_answer zero given = Ok given
stored_answer (suc n) given = Err (suc n)

-- what a buffer is to hold after a call whose stored refusal is a number, 0 for none: the stored content, or what it held before
abbrev pub stored_content : {A : Type 0} → ℕ → A → A → A
stored_content zero given before = given
stored_content (suc n) given before = before

-- one more, up to the largest number of 64 bits
unfoldable pub one_more : ℕ → ℕ
one_more n = cond (ltb n 18446744073709551615) (n + 1) n

-- the refusals by number with one more; an accepted case, number 0, changes nothing
unfoldable pub refused_more : List ℕ → ℕ → List ℕ
refused_more all number = cond (ltb 0 number && ltb number 30) (set all number (one_more (get_or all number 0))) all

-- the kind that a number names in a table of numbers and kinds: that of the first pair that has the number
unfoldable pub kind_of : {K : Type 0} → List (ℕ × K) → ℕ → Option K
kind_of [] number = None
kind_of (pair ∷ kinds) number = cond (eqb pair.0 number) (Some pair.1) (kind_of kinds number)
