-- What the readers' statements count along a list of calls: accepted runs, the runs of one piece, the averagings of one triplet, refusals.
use Rattle.std.specs.Prelude.{Bool, true, false, ◌||◌, cond, List, [], ◌∷◌, ◌++◌, ◌≡◌, ℕ, zero, suc, ◌+◌, eqb, ℤ}
use Rattle.std.specs.Int.Signed.{mag}
use Rattle.list_laws.specs.Lists.{one_if}
use Rattle.list_laws.specs.Signed.{is_nat}
use Rattle.ask.specs.Ask.{after_call}
use Rattle.triplet_study.specs.Study.{Study, sizes_of}
use Rattle.sheet_step.specs.Steps.{Answered, Sheet, Call, run, carry, average, piece_of}
use Rattle.book_claim.specs.Book.{word_at, Word, fresh, computed, averaged_by, Book, is_open, open_words, book_no, turn, booked}

-- ---- "each of the sixteen has grown by exactly its own worker's accepted runs, repeats included"

-- how many runs a call makes for worker w: a run that names it one, a carry-on that names it one for each open piece, any other call none
abbrev pub runs_of : Book → ℕ → Call → ℕ
runs_of b w (run worker t b1 b2) = cond (is_nat worker w) 1 0
runs_of b w (carry worker) = cond (is_nat worker w) (open_words b.words) 0
runs_of b w (average t ids1 ids2) = 0

-- its accepted runs in a list of calls
abbrev pub runs_accepted : Study → Sheet → Book → ℕ → List Call → ℕ
runs_accepted g start b w [] = 0
runs_accepted g start b w (c ∷ calls) = after_call (book_no g start b c) (runs_of b w c) 0 + runs_accepted g start (turn g start b c) w calls

-- ---- one piece: whether it has been run

-- whether a call runs piece q: it names it, or carries on while the piece is open
abbrev pub runs_piece : Study → Book → ℕ → Call → Bool
runs_piece g b q (run worker t b1 b2) = eqb q (piece_of (sizes_of g) t b1 b2)
runs_piece g b q (carry worker) = is_open (word_at b q)
runs_piece g b q (average t ids1 ids2) = false

-- whether an accepted call of the list has run it
abbrev pub has_run : Study → Sheet → Book → ℕ → List Call → Bool
has_run g start b q [] = false
has_run g start b q (c ∷ calls) = after_call (book_no g start b c) (runs_piece g b q c) false || has_run g start (turn g start b c) q calls

-- ---- one triplet: how often it has been averaged

-- whether a call averages triplet t
abbrev pub averages : ℕ → Call → Bool
averages t (run worker t' b1 b2) = false
averages t (carry worker) = false
averages t (average t' ids1 ids2) = eqb t (mag t')

-- the accepted averagings of triplet t in a list of calls
abbrev pub averagings : Study → Sheet → Book → ℕ → List Call → ℕ
averagings g start b t [] = 0
averagings g start b t (c ∷ calls) = after_call (book_no g start b c) (one_if (averages t c)) 0 + averagings g start (turn g start b c) t calls

-- the list has an accepted averaging of triplet t with these lists
pub record AveragedBy (g : Study) (start : Sheet) (b : Book) (t : ℕ) (ids1 ids2 : List ℤ) (calls : List Call) : Type 0 where
  pub before : List Call
  pub after : List Call
  pub named : ℤ
  pub parts : calls ≡ before ++ (average named ids1 ids2 ∷ after)
  pub triplet : t ≡ mag named
  pub accepted : book_no g start (booked g start b before) (average named ids1 ids2) ≡ 0

-- whether a piece is averaged, by its word
abbrev pub is_averaged : Word → Bool
is_averaged fresh = false
is_averaged computed = false
is_averaged (averaged_by ids1 ids2) = true

-- ---- "a sheet on which every call is refused"

-- a call's number is a refusal's
abbrev pub IsRefused : ℕ → Type 0
IsRefused zero = ⊥
IsRefused (suc n) = Unit

-- every answer is
abbrev pub AreRefused : List Answered → Type 0
AreRefused [] = Unit
AreRefused (a ∷ rest) = IsRefused a.number × AreRefused rest
