-- The tally of accepted runs, sixteen counts, and the answer that gives it back.
use Rattle.std.specs.Prelude.{Bool, List, [], ◌∷◌, ℕ, ◌+◌, ◌^◌, ltb, ℤ, get_or, set}
use Rattle.std.specs.Int.Signed.{mag}
use Rattle.list_laws.specs.Lists.{tabulate}
use Rattle.list_laws.specs.Signed.{is_below}
use Rattle.std.specs.declared.result.Result.{Result}
use Rattle.std.specs.declared.result.Result.TheVariants.{Ok, Err}
use Rattle.ask.specs.Ask.{Question, asks, first_no}
use Rattle.ask.specs.Refusals.{answer_of}
use Rattle.ask.specs.declared.refusal.Refusal.{Refusal}
use Rattle.sheet_tally.specs.declared.Tally.{Tally}

-- "the tally goes in by value and comes back": the tally of a done call, or why the caller's stays
abbrev pub sheet_answer : ℕ → List ℕ → Result Tally Refusal
sheet_answer n tally = answer_of n (record { runs = tally })

-- the counts that a caller holds after a call: those that it gave, or the caller's own
abbrev pub runs_after : Result Tally Refusal → List ℕ → List ℕ
runs_after (Ok tally) old = tally.runs
runs_after (Err why) old = old

-- Question 21: "is the worker 0 to 15"
unfoldable pub is_worker : ℤ → Bool
is_worker worker = is_below worker 16

-- Question 20: "does the tally stay below 2^63 after all runs of this call?", of one count
unfoldable pub is_room : ℕ → ℕ → Bool
is_room count runs = ltb (count + runs) (2 ^ 63)

-- "sixteen, one for each worker": a worker's count
abbrev pub count_of : List ℕ → ℤ → ℕ
count_of tally worker = get_or tally (mag worker) 0

-- the counts of workers 0 to 15, one after the other
abbrev pub sixteen_of : List ℕ → List ℕ
sixteen_of tally = tabulate 16 (λ w. get_or tally w 0)

-- "a run and a carry-on name their worker and move that count only"
abbrev pub with_runs : List ℕ → ℤ → ℕ → List ℕ
with_runs tally worker runs = set tally (mag worker) (count_of tally worker + runs)

-- "21, asked just before question 20, which then concerns that worker's count"
abbrev pub tally_questions : List ℕ → ℤ → ℕ → List Question
tally_questions tally worker runs = asks 21 (is_worker worker) ∷ asks 20 (is_room (count_of tally worker) runs) ∷ []

-- "adds accepted runs or reports full": the tally with the worker's runs, or why it stays
abbrev pub added_to : List ℕ → ℤ → ℕ → Result Tally Refusal
added_to tally worker runs = sheet_answer (first_no (tally_questions tally worker runs)) (with_runs tally worker runs)
