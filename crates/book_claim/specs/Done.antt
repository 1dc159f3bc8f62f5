-- The counts of the readers' statements by the program's own answers: a call counts where its entry answers that it is done, on the sheet that it was given.
use Rattle.std.specs.Prelude.{Bool, true, false, ◌||◌, cond, List, [], ◌∷◌, ℕ, zero, suc, ◌+◌, eqb}
use Rattle.list_laws.specs.Lists.{one_if}
use Rattle.list_laws.specs.Signed.{is_nat}
use Rattle.triplet_study.specs.Study.{Study, sizes_of}
use Rattle.marks.specs.Marks.{is_open_at, open_pieces}
use Rattle.sheet_step.specs.Steps.{Sheet, Call, run, carry, average, pieces_of, piece_of, step, step_answer}
use Rattle.book_claim.specs.Counts.{averages}

-- the entry answered that it is done
abbrev pub is_done : ℕ → Bool
is_done zero = true
is_done (suc n) = false

-- how many runs a call makes for worker w on a sheet: a run that names it one, a carry-on that names it one for each mark 0, any other
-- call none
abbrev pub runs_on : Study → Sheet → ℕ → Call → ℕ
runs_on g s w (run worker t b1 b2) = cond (is_nat worker w) 1 0
runs_on g s w (carry worker) = cond (is_nat worker w) (open_pieces (pieces_of (sizes_of g)) s.marks) 0
runs_on g s w (average t ids1 ids2) = 0

-- its runs in the calls that were answered as done
abbrev pub runs_done : Study → Sheet → ℕ → List Call → ℕ
runs_done g s w [] = 0
runs_done g s w (c ∷ calls) = cond (is_done (step_answer g s c).number) (runs_on g s w c) 0 + runs_done g (step g s c) w calls

-- whether a call runs piece q of a sheet: it names it, or carries on while its mark is 0
abbrev pub runs_piece_on : Study → Sheet → ℕ → Call → Bool
runs_piece_on g s q (run worker t b1 b2) = eqb q (piece_of (sizes_of g) t b1 b2)
runs_piece_on g s q (carry worker) = is_open_at (pieces_of (sizes_of g)) s.marks q
runs_piece_on g s q (average t ids1 ids2) = false

-- whether a call that was answered as done has run it
abbrev pub ran_done : Study → Sheet → ℕ → List Call → Bool
ran_done g s q [] = false
ran_done g s q (c ∷ calls) = cond (is_done (step_answer g s c).number) (runs_piece_on g s q c) false || ran_done g (step g s c) q calls

-- the averagings of triplet t that were answered as done
abbrev pub averagings_done : Study → Sheet → ℕ → List Call → ℕ
averagings_done g s t [] = 0
averagings_done g s t (c ∷ calls) = cond (is_done (step_answer g s c).number) (one_if (averages t c)) 0 + averagings_done g (step g s c) t calls
