-- A sheet, the calls on it, the questions of each call in document 01's order, and what a call does.
use Rattle.std.specs.Prelude.{◌≡◌, Bool, ◌&&◌, List, [], ◌∷◌, ◌++◌, ℕ, ◌+◌, ◌*◌, ◌/◌, ◌%◌, eqb, ℤ, pos, Float, get_or, length}
use Rattle.std.specs.Float.{nan}
use Rattle.std.specs.Int.Signed.{mag}
use Rattle.list_laws.specs.Lists.{all_below, part, row_of}
use Rattle.list_laws.specs.Patch.{patch}
use Rattle.list_laws.specs.Signed.{is_below}
use Rattle.ask.specs.Ask.{Question, asks, first_no, after_call}
use Rattle.question_values.specs.Averages.{are_degenerate_ids, are_weights}
use Rattle.triplet_study.specs.declared.Sizes.{Sizes}
use Rattle.triplet_study.specs.Study.{Study, sizes_of}
use Rattle.triplet_study.specs.Questions.{study_questions, are_lengths}
use Rattle.triplet_piece.specs.Layout.{triplet_at}
use Rattle.triplet_piece.specs.Weights.{computed_weights, computed_flags}
use Rattle.averaging_blocks.specs.Weights.{averaged}
use Rattle.averaging_flags.specs.Flags.{averaged_flags}
use Rattle.std.specs.declared.result.Result.{Result}
use Rattle.ask.specs.declared.refusal.Refusal.{Refusal}
use Rattle.sheet_tally.specs.declared.Tally.{Tally}
use Rattle.sheet_tally.specs.Tallies.{tally_questions, with_runs, sheet_answer}
use Rattle.marks.specs.Bytes.{bytes_for, patch_marks}
use Rattle.marks.specs.Marks.{is_open_at, are_marks, is_not_averaged, are_computed, open_pieces, carried_marks, averaged_marks}

-- "Weights, flags, marks, tally"; the tally has a count for each worker
pub record Sheet : Type 0 where
  pub weights : List Float
  pub flags : List ℤ
  pub marks : List ℕ
  pub tally : List ℕ

-- a sheet from its parts
abbrev pub sheet : List Float → List ℤ → List ℕ → List ℕ → Sheet
sheet weights flags marks tally = record { weights = weights; flags = flags; marks = marks; tally = tally }

-- a call's kind and its arguments apart from study, sheet and tally: run a named piece (worker, triplet, b1, b2), carry on (worker), average
-- a triplet with two id lists; "a run and a carry-on name their worker"
pub data Call : Type 0 where
  run : ℤ → ℤ → ℤ → ℤ → Call
  carry : ℤ → Call
  average : ℤ → List ℤ → List ℤ → Call

-- how many pieces a sheet has
abbrev pub pieces_of : Sizes → ℕ
pieces_of z = z.triplets * z.pairs

-- ---- the questions

-- Question 12: "Is each lent buffer exactly as long as its record?" Marks: "one byte a piece".
unfoldable pub are_sheet_lengths : Sizes → ℕ → ℕ → ℕ → Bool
are_sheet_lengths z weights flags marks = are_lengths z weights flags && eqb marks (bytes_for (pieces_of z))

-- Question 14: "Is the named triplet or piece on the sheet?"
unfoldable pub is_piece : Sizes → ℤ → ℤ → ℤ → Bool
is_piece z t b1 b2 = (is_below t z.triplets && is_below b1 z.bands1) && is_below b2 z.bands2

-- Question 17: "Have both id lists that length, each id its own place or the id before it?"
unfoldable pub are_id_lists : ℕ → List ℤ → List ℤ → Bool
are_id_lists bands ids1 ids2 = are_degenerate_ids bands ids1 && are_degenerate_ids bands ids2

-- the weights of triplet t in channel c
abbrev pub triplet_weights : Sizes → ℕ → ℕ → List Float → List Float
triplet_weights z t c weights = part (c * z.cells + t * (z.points * z.pairs)) (z.points * z.pairs) weights

-- Question 19: "Are its weights finite, magnitude at most 2^60, none a negative zero?"
unfoldable pub are_triplet_weights : Sizes → ℕ → List Float → Bool
are_triplet_weights z t weights = all_below z.channels (λ c. are_weights (triplet_weights z t c weights))

-- questions 12 and 13, which every call asks after those on the study
abbrev pub sheet_questions : Sizes → ℕ → ℕ → List ℕ → List Question
sheet_questions z weights flags marks =
    asks 12 (are_sheet_lengths z weights flags (length marks)) ∷ asks 13 (are_marks z.pairs (pieces_of z) marks) ∷ []

-- 3 to 13, which every call asks
abbrev pub common_questions : Study → ℕ → ℕ → List ℕ → List Question
common_questions g weights flags marks = study_questions g ++ sheet_questions (sizes_of g) weights flags marks

-- 14 and 15, of a named piece
abbrev pub piece_questions : Sizes → List ℕ → ℤ → ℤ → ℤ → List Question
piece_questions z marks t b1 b2 = asks 14 (is_piece z t b1 b2) ∷ asks 15 (is_not_averaged z.pairs marks (mag t)) ∷ []

-- 14 to 19, of an averaging
abbrev pub average_questions : Sizes → List Float → List ℕ → ℤ → List ℤ → List ℤ → List Question
average_questions z weights marks t ids1 ids2 =
    asks 14 (is_below t z.triplets)
    ∷ asks 15 (is_not_averaged z.pairs marks (mag t))
    ∷ asks 16 (eqb z.bands1 z.bands2)
    ∷ asks 17 (are_id_lists z.bands1 ids1 ids2)
    ∷ asks 18 (are_computed z.pairs marks (mag t))
    ∷ asks 19 (are_triplet_weights z (mag t) weights)
    ∷ []

-- what the kinds of call ask each: to run 14, 15, 21, 20; to carry on 21, 20; to average 14 to 19
abbrev pub own_questions : Study → Sheet → Call → List Question
own_questions g s (run worker t b1 b2) = piece_questions (sizes_of g) s.marks t b1 b2 ++ tally_questions s.tally worker 1
own_questions g s (carry worker) = tally_questions s.tally worker (open_pieces (pieces_of (sizes_of g)) s.marks)
own_questions g s (average t ids1 ids2) = average_questions (sizes_of g) s.weights s.marks t ids1 ids2

-- "A call asks, in this order, those that concern what it takes": the study's 3 to 11, the sheet's 12 and 13, its own
abbrev pub call_questions : Study → Sheet → Call → List Question
call_questions g s c = study_questions g ++ (sheet_questions (sizes_of g) (length s.weights) (length s.flags) s.marks ++ own_questions g s c)

-- "The first "no" is the result": its number, and 0 where the call is accepted
unfoldable pub verdict : Study → Sheet → Call → ℕ
verdict g s c = first_no (call_questions g s c)

-- ---- what an accepted call does

-- the piece of a triplet and two bands, by the place of its mark
abbrev pub piece_of : Sizes → ℤ → ℤ → ℤ → ℕ
piece_of z t b1 b2 = mag t * z.pairs + (mag b1 * z.bands2 + mag b2)

-- "what the degenerate sets of the lists .. make of" a row of weights: its entry at place i
abbrev pub averaged_at : Sizes → List ℤ → List ℤ → List Float → ℕ → Float
averaged_at z ids1 ids2 row i = get_or (averaged z.bands1 ids1 ids2 row) (i % z.pairs) nan

-- of a row of flags: its entry at place j
abbrev pub averaged_flag_at : Sizes → List ℤ → List ℤ → List ℤ → ℕ → ℤ
averaged_flag_at z ids1 ids2 row j = get_or (averaged_flags z.bands1 ids1 ids2 row) (j % z.pairs) (pos 0)

-- "Averaging one triplet (each channel, then flags)": the weights afterwards, each point and channel by itself
unfoldable pub triplet_averaged : Sizes → ℕ → List ℤ → List ℤ → List Float → List Float
triplet_averaged z t ids1 ids2 l =
    patch (λ i. eqb (triplet_at z.points z.pairs (i % z.cells)) t) (λ i. averaged_at z ids1 ids2 (row_of z.pairs (i / z.pairs) l) i) l

-- the flags afterwards
unfoldable pub triplet_flags_averaged : Sizes → ℕ → List ℤ → List ℤ → List ℤ → List ℤ
triplet_flags_averaged z t ids1 ids2 l =
    patch (λ j. eqb (triplet_at z.points z.pairs j) t) (λ j. averaged_flag_at z ids1 ids2 (row_of z.pairs (j / z.pairs) l) j) l

-- "Running a piece writes its own entries at every point and sets its mark to 1. Carrying on runs all pieces marked 0 .. Averaging one
-- triplet .. sets its marks to 2. The tally counts accepted runs", each in its worker's count
unfoldable pub effect : Study → Sheet → Call → Sheet
effect g s (run worker t b1 b2) =
    sheet (computed_weights g (λ n. eqb n (piece_of (sizes_of g) t b1 b2)) s.weights)
    (computed_flags g (λ n. eqb n (piece_of (sizes_of g) t b1 b2)) s.flags)
    (patch_marks (λ n. eqb n (piece_of (sizes_of g) t b1 b2)) (λ n. 1) s.marks)
    (with_runs s.tally worker 1)
effect g s (carry worker) =
    sheet (computed_weights g (is_open_at (pieces_of (sizes_of g)) s.marks) s.weights)
    (computed_flags g (is_open_at (pieces_of (sizes_of g)) s.marks) s.flags)
    (carried_marks (pieces_of (sizes_of g)) s.marks)
    (with_runs s.tally worker (open_pieces (pieces_of (sizes_of g)) s.marks))
effect g s (average t ids1 ids2) =
    sheet (triplet_averaged (sizes_of g) (mag t) ids1 ids2 s.weights)
    (triplet_flags_averaged (sizes_of g) (mag t) ids1 ids2 s.flags)
    (averaged_marks (sizes_of g).pairs (mag t) s.marks)
    s.tally

-- The sheet and the tally after a call; "a refused call changes no lent buffer, and the tally stays".
unfoldable pub step : Study → Sheet → Call → Sheet
step g s c = after_call (verdict g s c) (effect g s c) s

-- a call's number, 0 where it is done, otherwise that of the first no, and the tally beside it
pub record Answered : Type 0 where
  pub number : ℕ
  pub tally : List ℕ

-- both, from its parts
abbrev pub answered : ℕ → List ℕ → Answered
answered number tally = record { number = number; tally = tally }

-- those of a call
abbrev pub step_answer : Study → Sheet → Call → Answered
step_answer g s c = answered (verdict g s c) (step g s c).tally

-- What a call came to: the number of its first no, 0 where it is done, and the sheet that it left.
pub record Called (g : Study) (s : Sheet) (c : Call) (number : ℕ) (left : Sheet) : Type 0 where
  pub says : number ≡ verdict g s c
  pub leaves : left ≡ step g s c

-- What a call did: the tally that it gave or why it was refused, and the sheet that it left.
pub record Did (g : Study) (s : Sheet) (c : Call) (answer : Result Tally Refusal) (left : Sheet) : Type 0 where
  pub answers : answer ≡ sheet_answer (step_answer g s c).number (step_answer g s c).tally
  pub leaves : left ≡ step g s c
