-- The record of a call, what its numbers say and where the next record starts; and what making it does. A call has some value for each of
-- its two lists, and `one` and `two` say which list that is; each is cut to a room, m or n.
use Rattle.std.specs.Prelude.{ℕ, min, ◌/◌, ◌≡◌, List, ℤ, length}
use Rattle.std.specs.declared.result.Result.{Result}
use Rattle.list_laws.specs.Lists.{tabulate}
use Rattle.ask.specs.declared.refusal.Refusal.{Refusal}
use Rattle.triplet_study.specs.Study.{Study}
use Rattle.sheet_tally.specs.declared.Tally.{Tally}
use Rattle.sheet_step.specs.Steps.{Sheet, Did, run, carry, average}
use Rattle.sheet_calls.specs.Calls.{calls_of}
use Rattle.sheet_play.specs.Outcomes.{Outcome}
use Rattle.sheet_list.specs.Play.{list_no, DidPlay}
use Rattle.replay_input.specs.Fields.{after_count, after_whole, count_at, whole_at, value_from}
use Rattle.replay_study.specs.Records.{after_list}
use Rattle.replay_sheet.specs.declared.counts.CallKind.{CallKind}
use Rattle.replay_sheet.specs.declared.counts.CallKind.TheVariants as kind
use Rattle.replay_calls.specs.declared.calls.Call.{Call}
use Rattle.replay_calls.specs.declared.calls.Call.TheVariants.{RunPiece, CarryOn, Average, Play}

-- the whole numbers of a list at a place of the text, cut to a room
abbrev pub wholes_at : List ℕ → ℕ → ℕ → List ℤ
wholes_at text room at = tabulate (min (count_at text at) room) (value_from whole_at after_whole text (after_count text at))

-- the place after it
abbrev pub after_wholes : List ℕ → ℕ → ℕ → ℕ
after_wholes text room at = after_list (after_whole text) text at room

-- a run: worker, triplet, b1, b2
unfoldable pub IsRun : {L : Type 0} → List ℕ → ℕ → Call L → ℕ → Type 0
IsRun text at (RunPiece worker piece) next =
    let second = after_whole text at in
    let third = after_whole text second in
    let fourth = after_whole text third in
    (worker ≡ whole_at text at) × (piece.triplet ≡ whole_at text second) × (piece.b1 ≡ whole_at text third) × (piece.b2 ≡ whole_at text fourth)
    × (next ≡ after_whole text fourth)
IsRun text at (CarryOn worker) next = ⊥
IsRun text at (Average triplet ids1 ids2) next = ⊥
IsRun text at (Play list ids answers) next = ⊥

-- a carry-on: worker
unfoldable pub IsCarryOn : {L : Type 0} → List ℕ → ℕ → Call L → ℕ → Type 0
IsCarryOn text at (RunPiece worker piece) next = ⊥
IsCarryOn text at (CarryOn worker) next = (worker ≡ whole_at text at) × (next ≡ after_whole text at)
IsCarryOn text at (Average triplet ids1 ids2) next = ⊥
IsCarryOn text at (Play list ids answers) next = ⊥

-- an averaging: triplet, both lists of ids
unfoldable pub IsAverage : {L : Type 0} → (L → List ℤ) → (L → List ℤ) → ℕ → ℕ → List ℕ → ℕ → Call L → ℕ → Type 0
IsAverage one two m n text at (RunPiece worker piece) next = ⊥
IsAverage one two m n text at (CarryOn worker) next = ⊥
IsAverage one two m n text at (Average triplet ids1 ids2) next =
    let second = after_whole text at in
    let third = after_wholes text m second in
    (triplet ≡ whole_at text at) × (one ids1 ≡ wholes_at text m second) × (two ids2 ≡ wholes_at text n third) × (next ≡ after_wholes text n third)
IsAverage one two m n text at (Play list ids answers) next = ⊥

-- a list of calls: its numbers, the list of ids, and how many answers, k at most
unfoldable pub IsPlayWithin : {L : Type 0} → (L → List ℤ) → (L → List ℤ) → ℕ → ℕ → ℕ → List ℕ → ℕ → Call L → ℕ → Type 0
IsPlayWithin one two m n k text at (RunPiece worker piece) next = ⊥
IsPlayWithin one two m n k text at (CarryOn worker) next = ⊥
IsPlayWithin one two m n k text at (Average triplet ids1 ids2) next = ⊥
IsPlayWithin one two m n k text at (Play list ids answers) next =
    let second = after_wholes text m at in
    let third = after_wholes text n second in
    (one list ≡ wholes_at text m at) × (two ids ≡ wholes_at text n second) × (answers ≡ min (count_at text third) k)
    × (next ≡ after_count text third)

-- a call of a kind, a list of calls with k answers at most; an open count, which is none of a list's calls, is read as an averaging
unfoldable pub IsCallWithin : {L : Type 0} → (L → List ℤ) → (L → List ℤ) → ℕ → ℕ → ℕ → CallKind → List ℕ → ℕ → Call L → ℕ → Type 0
unfolding IsRun IsCarryOn IsAverage IsPlayWithin
IsCallWithin one two m n k kind.RunPiece text at call next = IsRun text at call next
IsCallWithin one two m n k kind.CarryOn text at call next = IsCarryOn text at call next
IsCallWithin one two m n k kind.Average text at call next = IsAverage one two m n text at call next
IsCallWithin one two m n k kind.OpenCount text at call next = IsAverage one two m n text at call next
IsCallWithin one two m n k kind.Play text at call next = IsPlayWithin one two m n k text at call next

-- the same with no more answers than the text has room for
abbrev pub IsCall : {L : Type 0} → (L → List ℤ) → (L → List ℤ) → ℕ → ℕ → CallKind → List ℕ → ℕ → Call L → ℕ → Type 0
IsCall one two m n kind text = IsCallWithin one two m n (length text / 16) kind text

-- how many answers a call is to give into a room of its own: those of a list of calls
abbrev pub answers_of : {L : Type 0} → Call L → ℕ
answers_of (RunPiece worker piece) = 0
answers_of (CarryOn worker) = 0
answers_of (Average triplet ids1 ids2) = 0
answers_of (Play list ids answers) = answers

-- two calls that say the same: the lists of the one are those of the other
abbrev pub SaysSame : {L K : Type 0} → (L → List ℤ) → (K → List ℤ) → Call L → Call K → Type 0
SaysSame one two (RunPiece worker piece) (RunPiece worker' piece') = (worker' ≡ worker) × (piece' ≡ piece)
SaysSame one two (CarryOn worker) (CarryOn worker') = worker' ≡ worker
SaysSame one two (Average triplet ids1 ids2) (Average triplet' ids1' ids2') = (triplet' ≡ triplet) × (two ids1' ≡ one ids1) × (two ids2' ≡ one ids2)
SaysSame one two (Play list ids answers) (Play list' ids' answers') = (two list' ≡ one list) × (two ids' ≡ one ids) × (answers' ≡ answers)
SaysSame one two a b = ⊥

-- What making a call does: its answer and what it leaves, of a sheet and of the room for the answers of a list of calls and for the
-- tallies after them, which the other calls leave as it is.
abbrev pub Makes : {L : Type 0} → (L → List ℤ) → Study → Sheet → Call L → List ℕ → List ℕ → Result Tally Refusal → Outcome → Type 0
Makes items g s (RunPiece worker piece) answers tallies answer left =
    Did g s (run worker piece.triplet piece.b1 piece.b2) answer left.sheet × ((left.numbers ≡ answers) × (left.tallies ≡ tallies))
Makes items g s (CarryOn worker) answers tallies answer left = Did g s (carry worker) answer left.sheet × ((left.numbers ≡ answers) × (left.tallies ≡ tallies))
Makes items g s (Average triplet ids1 ids2) answers tallies answer left =
    Did g s (average triplet (items ids1) (items ids2)) answer left.sheet × ((left.numbers ≡ answers) × (left.tallies ≡ tallies))
Makes items g s (Play list ids size) answers tallies answer left =
    DidPlay g s (calls_of (items list) (items ids)) (list_no (length (items list)) (length answers) (length tallies)) answers tallies answer left
