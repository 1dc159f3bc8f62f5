-- The record of an open count: type, triplets, points, both band counts, list of the weights, cut to 256, triplet; then refusal and count.
use Rattle.std.specs.Prelude.{ℕ, min, Bool, ◌&&◌, List, eqb, Float}
use Rattle.std.specs.declared.result.Result.{Result}
use Rattle.std.specs.declared.result.Result.TheVariants.{Ok, Err}
use Rattle.list_laws.specs.Lists.{tabulate}
use Rattle.ask.specs.Refusals.{number_of}
use Rattle.ask.specs.declared.refusal.Refusal.{Refusal}
use Rattle.open_count.specs.OpenCount.{open_count_answer}
use Rattle.replay_input.specs.Fields.{count_at, after_count, bits_at, after_bits, whole_at, after_whole, real_at, value_from}
use Rattle.replay_study.specs.Records.{after_list, counts_at, after_counts}

-- the weights of a list at a place of the text
abbrev pub open_weights : List ℕ → ℕ → List Float
open_weights text at = tabulate (min (count_at text at) 256) (value_from real_at after_bits text (after_count text at))

-- the place after them
abbrev pub after_weights : List ℕ → ℕ → ℕ
after_weights text at = after_list (after_bits text) text at 256

-- where the weights of a record stand: behind its type and its counts
abbrev pub weights_place : List ℕ → ℕ → ℕ
weights_place text at = after_counts text (after_whole text at)

-- what the call of a record gives
unfoldable pub open_answer : List ℕ → ℕ → Result ℕ Refusal
open_answer text at =
    let weights = weights_place text at in
    open_count_answer (whole_at text at) (counts_at text (after_whole text at)) (open_weights text weights) (whole_at text (after_weights text weights))

-- where its stored answer stands
abbrev pub stored_place : List ℕ → ℕ → ℕ
stored_place text at = after_whole text (after_weights text (weights_place text at))

-- the entries that an answer counts, 0 for a refused call
abbrev pub entries_of : Result ℕ Refusal → ℕ
entries_of (Ok entries) = entries
entries_of (Err why) = 0

-- whether the answer is the stored one
unfoldable pub open_agrees : List ℕ → ℕ → Bool
unfolding open_answer
open_agrees text at =
    let answer = open_answer text at in
    let stored = stored_place text at in
    eqb (number_of answer) (count_at text stored) && eqb (entries_of answer) (bits_at text (after_count text stored))

-- the place after a record
abbrev pub after_open : List ℕ → ℕ → ℕ
after_open text at = after_bits text (after_count text (stored_place text at))
