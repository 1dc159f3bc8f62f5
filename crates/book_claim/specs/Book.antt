-- The book of demand 3. It is fed the study, the sheet and tally at the start, and of each call its kind and its arguments apart from
-- sheet and tally; no answer, and nothing that the program keeps later.
use Rattle.std.specs.Prelude.{Bool, true, false, cond, List, [], ◌∷◌, map, ℕ, zero, suc, ◌+◌, ◌*◌, ◌/◌, ◌%◌, eqb, ltb, Float, ℤ, length, get_or, set, replicate}
use Rattle.std.specs.Int.Signed.{mag}
use Rattle.list_laws.specs.Lists.{tabulate, count_below}
use Rattle.list_laws.specs.Patch.{patch}
use Rattle.marks.specs.Bytes.{patch_marks}
use Rattle.ask.specs.Ask.{after_call}
use Rattle.triplet_piece.specs.Layout.{piece_at}
use Rattle.triplet_piece.specs.Weights.{weight_at, flag_at}
use Rattle.triplet_study.specs.Study.{Study, sizes_of}
use Rattle.sheet_tally.specs.Tallies.{with_runs}
use Rattle.sheet_step.specs.Steps.{Answered, answered, Sheet, sheet, Call, run, carry, average, pieces_of, verdict, piece_of, averaged_at, averaged_flag_at}

-- ---- what the book holds

-- "a word for each piece": open, computed, or averaged with "this call's id lists .. written beside"
pub data Word : Type 0 where
  fresh : Word
  computed : Word
  averaged_by : List ℤ → List ℤ → Word

-- "It holds a word for each piece .., and a tally"; the words lie as the marks do, the tally has a count for each worker
pub record Book : Type 0 where
  pub words : List Word
  pub tally : List ℕ

-- a book from its parts
abbrev pub book : List Word → List ℕ → Book
book words tally = record { words = words; tally = tally }

-- "The book is fed the study, the sheet and tally at the start": "a word for each piece, at first open, and a tally"
unfoldable pub opened : Study → Sheet → Book
opened g start = book (replicate (pieces_of (sizes_of g)) fresh) start.tally

-- ---- the sheet that it stands for

-- "Open, computed, averaged are marks 0, 1, 2"
abbrev pub mark_of : Word → ℕ
mark_of fresh = 0
mark_of computed = 1
mark_of (averaged_by ids1 ids2) = 2

-- "the book's words as marks": the bytes of the start, in which each piece has its word's mark
unfoldable pub marks_of : ℕ → List Word → List ℕ → List ℕ
marks_of pieces words start = patch_marks (λ q. ltb q pieces) (λ q. mark_of (get_or words q fresh)) start

-- "the triplet's computed entries": the weights of the band pairs that lie beside place i, of one channel, triplet and point
abbrev pub computed_row : Study → ℕ → List Float
computed_row g i = tabulate (sizes_of g).pairs (λ k. weight_at g (i / (sizes_of g).pairs * (sizes_of g).pairs + k))

-- and the flags beside place j
abbrev pub computed_flag_row : Study → ℕ → List ℤ
computed_flag_row g j = tabulate (sizes_of g).pairs (λ k. flag_at g (j / (sizes_of g).pairs * (sizes_of g).pairs + k))

-- "An open piece's entries are those of the start. A computed piece's are, at every point, the weights and flag that demand 2 gives for
-- the study. An averaged piece's are what the degenerate sets of the lists beside it make of the triplet's computed entries, at each
-- point, each channel and the flags by themselves." The weight at place i, which was `old` at the start
unfoldable pub weight_by : Study → Word → ℕ → Float → Float
weight_by g fresh i old = old
weight_by g computed i old = weight_at g i
weight_by g (averaged_by ids1 ids2) i old = averaged_at (sizes_of g) ids1 ids2 (computed_row g i) i

-- the same sentences: the flag at place j
unfoldable pub flag_by : Study → Word → ℕ → ℤ → ℤ
flag_by g fresh j old = old
flag_by g computed j old = flag_at g j
flag_by g (averaged_by ids1 ids2) j old = averaged_flag_at (sizes_of g) ids1 ids2 (computed_flag_row g j) j

-- the piece of the flag at place j, by the place of its mark
abbrev pub piece_of_flag : Study → ℕ → ℕ
piece_of_flag g j = piece_at (sizes_of g).points (sizes_of g).pairs j

-- the piece of the weight at place i: "Weights lie by channel, triplet, point, b1, b2; flags without the channel"
abbrev pub piece_of_weight : Study → ℕ → ℕ
piece_of_weight g i = piece_of_flag g (i % (sizes_of g).cells)

-- the word of piece q
abbrev pub word_at : Book → ℕ → Word
word_at b q = get_or b.words q fresh

-- the word that says what stands at place i of the weights
abbrev pub word_of_weight : Study → Book → ℕ → Word
word_of_weight g b i = word_at b (piece_of_weight g i)

-- and at place j of the flags
abbrev pub word_of_flag : Study → Book → ℕ → Word
word_of_flag g b j = word_at b (piece_of_flag g j)

-- a list in which each entry x at place i has become f i x
unfoldable pub each_entry : {A : Type 0} → (ℕ → A → A) → List A → List A
each_entry f [] = []
each_entry f (x ∷ xs) = f zero x ∷ each_entry (λ i. f (suc i)) xs

-- "the book's words as marks, the book's entries (below) as weights, and the book's tally"
unfoldable pub render : Study → Sheet → Book → Sheet
render g start b =
    sheet (each_entry (λ i old. weight_by g (word_of_weight g b i) i old) start.weights)
    (each_entry (λ j old. flag_by g (word_of_flag g b j) j old) start.flags)
    (marks_of (pieces_of (sizes_of g)) b.words start.marks)
    b.tally

-- ---- what a call makes of it

-- an open piece, by its word
abbrev pub is_open : Word → Bool
is_open fresh = true
is_open computed = false
is_open (averaged_by ids1 ids2) = false

-- the number of open pieces
unfoldable pub open_words : List Word → ℕ
open_words words = count_below (length words) (λ q. is_open (get_or words q fresh))

-- "each open piece becomes computed"
abbrev pub carried : Word → Word
carried word = cond (is_open word) computed word

-- What an accepted call writes.
-- "Running a piece: its word becomes computed, the tally goes up by one", in its worker's count.
-- "Carrying on: each open piece becomes computed, the tally goes up by their number", in its worker's count.
-- "Averaging: the triplet's pieces become averaged, this call's id lists are written beside them, the tally stays."
unfoldable pub writes : Study → Book → Call → Book
writes g b (run worker t b1 b2) = book (set b.words (piece_of (sizes_of g) t b1 b2) computed) (with_runs b.tally worker 1)
writes g b (carry worker) = book (map carried b.words) (with_runs b.tally worker (open_words b.words))
writes g b (average t ids1 ids2) = book (patch (λ q. eqb (q / (sizes_of g).pairs) (mag t)) (λ q. averaged_by ids1 ids2) b.words) b.tally

-- "A call is asked its questions with the book's words as marks, the book's entries (below) as weights, and the book's tally.": the number
-- of the first "no", or 0
unfoldable pub book_no : Study → Sheet → Book → Call → ℕ
book_no g start b c = verdict g (render g start b) c

-- "The first "no" refuses the call with that number, and the book stays. Otherwise:" as it is written
unfoldable pub turn : Study → Sheet → Book → Call → Book
turn g start b c = after_call (book_no g start b c) (writes g b c) b

-- ---- a list of calls

-- the book after each of them in turn
abbrev pub booked : Study → Sheet → Book → List Call → Book
booked g start b [] = b
booked g start b (c ∷ calls) = booked g start (turn g start b c) calls

-- each call's answer by the book: "refuses the call with that number", or done with the book's tally
abbrev pub book_answers : Study → Sheet → Book → List Call → List Answered
book_answers g start b [] = []
book_answers g start b (c ∷ calls) = answered (book_no g start b c) (turn g start b c).tally ∷ book_answers g start (turn g start b c) calls
