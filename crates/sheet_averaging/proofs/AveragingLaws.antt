-- An averaging on a sheet whose questions 3 to 13 say yes, by the values that the code makes: refused by its own questions, or done. Assumes
-- nothing.
use mathlib.Core.Path.{◌≡◌, refl, sym, ap, ◌∙◌}
use mathlib.Core.List.{List}
use Prim.Native.Nat.{ℕ, ◌+◌, ◌*◌, ◌≤◌, ◌<◌}
use lib.Ieee.{Float}
use lib.IntN.{ℤ}
use lib.ListN.{length}
use lib.Signed.{mag}
use Rattle.std.specs.declared.result.Result.{Result}
use Rattle.std.specs.declared.result.Result.TheVariants.{Err}
use Rattle.ask.specs.Ask.{first_no}
use Rattle.ask.specs.Refusals.{answer_of}
use Rattle.ask.specs.declared.refusal.Refusal.{Refusal}
use Rattle.triplet_study.specs.declared.Sizes.{Sizes}
use Rattle.triplet_study.specs.Study.{Study, sizes_of}
use Rattle.marks.specs.Bytes.{places_in}
use Rattle.marks.specs.Marks.{averaged_marks}
use Rattle.sheet_step.specs.Steps.{Sheet, sheet, average, average_questions, triplet_averaged, triplet_flags_averaged, verdict, effect, Called, Did}
use Rattle.sheet_step.proofs.CountLaws.{marks-place}
use Rattle.sheet_step.proofs.StepLaws.{verdict-own, average-named, refused-did}
use Rattle.sheet_turn.specs.Turns.{common_no}
use Rattle.sheet_turn.proofs.TurnLaws.{called-yes, counted-yes, long-yes}

module _ (g : Study) (s : Sheet) {z : Sizes} (y : common_no g s ≡ 0) (ez : z ≡ sizes_of g) (t : ℤ) (ids1 ids2 : List ℤ) where
  own-average : first_no (average_questions z s.weights s.marks t ids1 ids2) ≡ verdict g s (average t ids1 ids2)
  own-average = ap (λ (x : Sizes). first_no (average_questions x s.weights s.marks t ids1 ids2)) ez ∙ sym (verdict-own g s (average t ids1 ids2) y)

  pub average-refused : (why : Refusal) → ◌≡◌ {A = Result (Unit {0}) Refusal} (Err why) (answer_of (first_no (average_questions z s.weights s.marks t ids1 ids2)) tt)
      → Did g s (average t ids1 ids2) (Err why) s
  average-refused why e = refused-did g s (average t ids1 ids2) _ why e (sym own-average)

  module _ (e : first_no (average_questions z s.weights s.marks t ids1 ids2) ≡ 0) (nt : ℕ) (et : nt ≡ mag t) where
    -- what the averages of weights and of flags require
    pub average-on : ((nt < z.triplets) × (z.bands1 ≡ z.bands2)) × ((length ids1 ≡ z.bands1) × (length ids2 ≡ z.bands1))
    average-on =
        let n : _ = average-named z s.weights s.marks t ids1 ids2 e in
        ((rw et n.0, n.1.0), n.1.1)

    pub average-place : nt * z.pairs + z.pairs ≤ places_in s.marks
    average-place = (marks-place z (counted-yes g s y ez) s.marks (long-yes g s y ez).1.1 nt average-on.0.0).1

    pub average-done : {w : List Float} {f : List ℤ} {m : List ℕ} → w ≡ triplet_averaged z nt ids1 ids2 s.weights
        → f ≡ triplet_flags_averaged z nt ids1 ids2 s.flags → m ≡ averaged_marks z.pairs nt s.marks
        → Called g s (average t ids1 ids2) 0 (sheet w f m s.tally)
    unfolding effect
    average-done {w} {f} {m} ew ef em =
        called-yes g s (average t ids1 ids2) s.tally w f m (sym own-average ∙ e) refl
        (ew ∙ (λ i. triplet_averaged (ez i) (et i) ids1 ids2 s.weights))
        (ef ∙ (λ i. triplet_flags_averaged (ez i) (et i) ids1 ids2 s.flags))
        (em ∙ (λ i. averaged_marks (ez i).pairs (et i) s.marks))
