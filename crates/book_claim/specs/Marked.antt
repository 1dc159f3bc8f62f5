-- "Each mark tells which holds": what the mark of a piece says of the calls before, and of the piece's entries at every point and channel.
use Rattle.std.specs.Prelude.{◌≡◌, true, false, List, ℕ, zero, suc, ◌/◌, ◌<◌, Float, ℤ, length, get_or}
use Rattle.triplet_piece.specs.Weights.{weight_at, flag_at}
use Rattle.triplet_study.specs.Study.{Study, sizes_of}
use Rattle.sheet_step.specs.Steps.{Sheet, Call, averaged_at, averaged_flag_at}
use Rattle.book_claim.specs.Book.{piece_of_weight, piece_of_flag, computed_row, computed_flag_row, opened}
use Rattle.book_claim.specs.Lists.{played}
use Rattle.book_claim.specs.Counts.{has_run, averagings, AveragedBy}

-- every weight and every flag of piece q after the calls, by its place and what stood there at the start
pub record Entries (g : Study) (start : Sheet) (calls : List Call) (q : ℕ) (weight : ℕ → Float → Float) (flag : ℕ → ℤ → ℤ) : Type 0 where
  pub weights : (i : ℕ) (d : Float) → i < length start.weights → piece_of_weight g i ≡ q → get_or (played g start calls).weights i d ≡ weight i (get_or start.weights i d)
  pub flags : (j : ℕ) (d : ℤ) → j < length start.flags → piece_of_flag g j ≡ q → get_or (played g start calls).flags j d ≡ flag j (get_or start.flags j d)

-- mark 0: no accepted call has run the piece, and it holds its old content
pub record Old (g : Study) (start : Sheet) (calls : List Call) (q : ℕ) : Type 0 where
  pub never-run : has_run g start (opened g start) q calls ≡ false
  pub entries : Entries g start calls q (λ i old. old) (λ j old. old)

-- mark 1: one has, none has averaged its triplet, and it holds the study's weights and flag
pub record Computed (g : Study) (start : Sheet) (calls : List Call) (q : ℕ) : Type 0 where
  pub has-run : has_run g start (opened g start) q calls ≡ true
  pub not-averaged : averagings g start (opened g start) (q / (sizes_of g).pairs) calls ≡ 0
  pub entries : Entries g start calls q (λ i old. weight_at g i) (λ j old. flag_at g j)

-- mark 2: one has, one accepted call and no other has averaged its triplet, and it holds the average of the study's by that call's lists
pub record Averaged (g : Study) (start : Sheet) (calls : List Call) (q : ℕ) : Type 0 where
  pub has-run : has_run g start (opened g start) q calls ≡ true
  pub ids1 : List ℤ
  pub ids2 : List ℤ
  pub averaged : AveragedBy g start (opened g start) (q / (sizes_of g).pairs) ids1 ids2 calls
  pub once : averagings g start (opened g start) (q / (sizes_of g).pairs) calls ≡ 1
  pub entries : Entries g start calls q (λ i old. averaged_at (sizes_of g) ids1 ids2 (computed_row g i) i) (λ j old. averaged_flag_at (sizes_of g) ids1 ids2 (computed_flag_row g j) j)

-- what a mark tells; there is no mark above 2
abbrev pub Tells : Study → Sheet → List Call → ℕ → ℕ → Type 0
Tells g start calls q zero = Old g start calls q
Tells g start calls q (suc zero) = Computed g start calls q
Tells g start calls q (suc (suc zero)) = Averaged g start calls q
Tells g start calls q (suc (suc (suc n))) = ⊥
