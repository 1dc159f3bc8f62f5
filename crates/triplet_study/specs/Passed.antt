-- The answer of the questions, without what it gives.
use Rattle.std.specs.declared.result.Result.{Result}
use Rattle.std.specs.declared.result.Result.TheVariants.{Ok, Err}
use Rattle.ask.specs.declared.refusal.Refusal.{Refusal}

-- done, or the refusal
abbrev pub without_value : {A : Type 0} → Result A Refusal → Result Unit Refusal
without_value (Ok given) = Ok tt
without_value (Err why) = Err why
