-- A list that is played on an open sheet leaves what the book says: by demand 3. Assumes nothing.
use mathlib.Core.Path.{◌≡◌, refl, ap, ap₂, ◌∙◌}
use mathlib.Core.List.{List, [], ◌∷◌, ◌++◌, map}
use Prim.Native.Nat.{ℕ}
use lib.ListN.{length, replicate}
use Rattle.triplet_study.specs.Study.{Study, sizes_of}
use Rattle.sheet_tally.specs.Tallies.{sixteen_of}
use Rattle.sheet_step.specs.Steps.{Sheet, Call, pieces_of, step}
use Rattle.book_claim.specs.Book.{Book, opened, render, turn}
use Rattle.book_claim.proofs.Demand3.{demand-3, same_step, opened-long, opened-is}
use Rattle.book_claim.proofs.TurnLaws.{turn-long}
use Rattle.sheet_play.specs.Outcomes.{number_in, tallies, outcome, outcome_of}
use Rattle.sheet_list.specs.Booked.{book_tallies, book_outcome}

module _ (g : Study) (start : Sheet) where
  render-tally : (b : Book) → (render g start b).tally ≡ b.tally
  unfolding render
  render-tally b = refl

  all-tallies : (calls : List Call) (b : Book) → length b.words ≡ pieces_of (sizes_of g) → (s : Sheet) → s ≡ render g start b → tallies g s calls ≡ book_tallies g start b calls
  all-tallies [] b long s e = refl
  all-tallies (c ∷ calls) b long s e =
      let k : step g s c ≡ render g start (turn g start b c) = rw e (same_step g start b long c) in
      ap₂ (λ (row rest : List ℕ). row ++ rest) (ap (λ (x : Sheet). sixteen_of x.tally) k ∙ ap sixteen_of (render-tally (turn g start b c))) (all-tallies calls (turn g start b c) (turn-long g start b c ∙ long) (step g s c) k)

  -- from marks all 0, what `play` leaves is the book's
  pub played-booked : (calls : List Call) → start.marks ≡ replicate (length start.marks) 0 → outcome_of g start calls ≡ book_outcome g start calls
  unfolding outcome_of book_outcome
  played-booked calls o =
      λ i. outcome ((demand-3 g start o calls).0 i) (map number_in ((demand-3 g start o calls).1 i)) (all-tallies calls (opened g start) (opened-long g start) start (opened-is g start o) i)
