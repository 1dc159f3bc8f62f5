-- What the book of demand 3 says of a list of calls on an open sheet.
use Rattle.std.specs.Prelude.{List, [], ◌∷◌, ◌++◌, map, ℕ}
use Rattle.triplet_study.specs.Study.{Study}
use Rattle.sheet_tally.specs.Tallies.{sixteen_of}
use Rattle.sheet_step.specs.Steps.{Sheet, Call}
use Rattle.book_claim.specs.Book.{Book, opened, render, turn, booked, book_answers}
use Rattle.sheet_play.specs.Outcomes.{number_in, Outcome, outcome}

-- the book's tally after each of the calls, sixteen counts a call
abbrev pub book_tallies : Study → Sheet → Book → List Call → List ℕ
book_tallies g start b [] = []
book_tallies g start b (c ∷ calls) = sixteen_of (turn g start b c).tally ++ book_tallies g start (turn g start b c) calls

-- the sheet of the book that was opened at the start, after the calls; "for each call accepted or which number"; the tallies
unfoldable pub book_outcome : Study → Sheet → List Call → Outcome
book_outcome g start calls =
    outcome (render g start (booked g start (opened g start) calls)) (map number_in (book_answers g start (opened g start) calls)) (book_tallies g start (opened g start) calls)
