-- One call on a sheet whose questions 3 to 13 say yes, by the values that the code makes: refused by its own questions, or done. Assumes
-- nothing.
use mathlib.Core.Path.{◌≡◌, sym, ap, ◌∙◌}
use mathlib.Core.List.{List, ◌++◌}
use Prim.Native.Nat.{ℕ, ◌+◌, ◌*◌, ◌<◌}
use native.Mathlib.Omega.{arith}
use lib.Dec.{eqb}
use lib.Ieee.{Float}
use lib.IntN.{ℤ}
use lib.ListN.{length}
use lib.Signed.{mag}
use Rattle.list_laws.proofs.ProductLaws.{digit_lt}
use Rattle.std.specs.declared.result.Result.{Result}
use Rattle.std.specs.declared.result.Result.TheVariants.{Err}
use Rattle.ask.specs.Ask.{first_no}
use Rattle.ask.specs.Refusals.{answer_of}
use Rattle.ask.specs.declared.refusal.Refusal.{Refusal}
use Rattle.triplet_study.specs.declared.Sizes.{Sizes}
use Rattle.triplet_study.specs.Study.{Study, sizes_of}
use Rattle.triplet_study.specs.Tested.{Counted, Ready}
use Rattle.triplet_piece.specs.Weights.{computed_weights, computed_flags, AreComputed}
use Rattle.sheet_tally.specs.Tallies.{tally_questions, with_runs}
use Rattle.marks.specs.Bytes.{patch_marks, places_in, Holds}
use Rattle.marks.proofs.BytesLaws.{place_in}
use Rattle.sheet_step.specs.Steps.{Sheet, sheet, Call, run, piece_questions, piece_of, pieces_of, verdict, effect, Called, Did}
use Rattle.sheet_step.proofs.CountLaws.{pieces-few}
use Rattle.sheet_step.proofs.StepLaws.{verdict-own, counts-yes, lengths-yes, ready-yes, run-yes, refused-did, done-sheet}
use Rattle.sheet_turn.specs.Turns.{common_no}

-- ---- one call that is done

module _ (g : Study) (s : Sheet) (c : Call) where
  pub called-yes : (tally : List ℕ) (w : List Float) (f : List ℤ) (m : List ℕ) → verdict g s c ≡ 0 → tally ≡ (effect g s c).tally
      → w ≡ (effect g s c).weights → f ≡ (effect g s c).flags → m ≡ (effect g s c).marks → Called g s c 0 (sheet w f m tally)
  called-yes tally w f m e er ew ef em = record { says = sym e; leaves = (λ i. sheet (ew i) (ef i) (em i) (er i)) ∙ done-sheet g s c e }

-- ---- what the counts say

module _ (g : Study) (s : Sheet) {z : Sizes} (y : common_no g s ≡ 0) (ez : z ≡ sizes_of g) where
  pub counted-yes : Counted z
  counted-yes = rw ez (counts-yes g s y)

  pub long-yes : (length s.weights ≡ z.channels * z.cells) × ((length s.flags ≡ z.cells) × Holds (pieces_of z) s.marks)
  long-yes = rw ez (lengths-yes g s y)

  pub ready_made : Ready g z (length s.weights) (length s.flags)
  ready_made = rw ez (ready-yes g s y)

  -- ---- a named piece

  module _ (worker t b1 b2 : ℤ) where
    own-run : first_no (piece_questions z s.marks t b1 b2 ++ tally_questions s.tally worker 1) ≡ verdict g s (run worker t b1 b2)
    own-run = ap (λ (x : Sizes). first_no (piece_questions x s.marks t b1 b2 ++ tally_questions s.tally worker 1)) ez ∙ sym (verdict-own g s (run worker t b1 b2) y)

    pub run-no : (why : Refusal) → ◌≡◌ {A = Result (Unit {0}) Refusal} (Err why) (answer_of (first_no (piece_questions z s.marks t b1 b2 ++ tally_questions s.tally worker 1)) tt)
        → Did g s (run worker t b1 b2) (Err why) s
    run-no why e = refused-did g s (run worker t b1 b2) _ why e (sym own-run)

    -- the piece by numbers
    module _ (e : first_no (piece_questions z s.marks t b1 b2 ++ tally_questions s.tally worker 1) ≡ 0) (nt n1 n2 : ℕ) (et : nt ≡ mag t) (e1 : n1 ≡ mag b1) (e2 : n2 ≡ mag b2) where
      pub run_on : (nt < z.triplets) × ((n1 < z.bands1) × (n2 < z.bands2))
      run_on = rw (et, e1, e2) (run-yes z s.marks t b1 b2 s.tally worker e).0

      run_in : nt * z.pairs + (n1 * z.bands2 + n2) < pieces_of z
      run_in =
          let k : n1 * z.bands2 + n2 < z.bands1 * z.bands2 = digit_lt n1 z.bands1 n2 z.bands2 run_on.1.0 run_on.1.1 in
          digit_lt nt z.triplets (n1 * z.bands2 + n2) z.pairs run_on.0 (rw counted-yes.pairs-are k)

      pub run-place : nt * z.pairs + (n1 * z.bands2 + n2) < places_in s.marks
      run-place = place_in (pieces_of z) s.marks _ long-yes.1.1 run_in

      pub run_small : nt * z.pairs + (n1 * z.bands2 + n2) < 268435456
      run_small = omega (arith, run_in, pieces-few z counted-yes)

      place_is : nt * z.pairs + (n1 * z.bands2 + n2) ≡ piece_of (sizes_of g) t b1 b2
      place_is = rw (et, e1, e2, ez)

      pub run-done : {w : List Float} {f : List ℤ} {m tally : List ℕ} → tally ≡ with_runs s.tally worker 1 → AreComputed g (λ n. eqb n (nt * z.pairs + (n1 * z.bands2 + n2))) s.weights s.flags w f
          → m ≡ patch_marks (λ k. eqb k (nt * z.pairs + (n1 * z.bands2 + n2))) (λ k. 1) s.marks
          → Called g s (run worker t b1 b2) 0 (sheet w f m tally)
      unfolding effect
      run-done {w} {f} {m} {tally} er a em =
          called-yes g s (run worker t b1 b2) tally w f m (sym own-run ∙ e) er
          (a.weights-are ∙ (λ i. computed_weights g (λ k. eqb k (place_is i)) s.weights))
          (a.flags-are ∙ (λ i. computed_flags g (λ k. eqb k (place_is i)) s.flags))
          (em ∙ (λ i. patch_marks (λ k. eqb k (place_is i)) (λ k. 1) s.marks))
