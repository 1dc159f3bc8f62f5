-- A carry-on on a sheet whose questions 3 to 13 say yes, by the values that the code makes: refused by 21 or 20, or done. Assumes nothing.
use mathlib.Core.Path.{◌≡◌, refl, sym, ap, ◌∙◌}
use mathlib.Core.List.{List}
use Prim.Native.Nat.{ℕ}
use lib.Ieee.{Float}
use lib.IntN.{ℤ}
use Rattle.std.specs.declared.result.Result.{Result}
use Rattle.std.specs.declared.result.Result.TheVariants.{Ok, Err}
use Rattle.ask.specs.Ask.{first_no}
use Rattle.ask.specs.declared.refusal.Refusal.{Refusal}
use Rattle.ask.proofs.RefusalLaws.{given-is, refused-is}
use Rattle.triplet_study.specs.declared.Sizes.{Sizes}
use Rattle.triplet_study.specs.Study.{Study, sizes_of}
use Rattle.triplet_piece.specs.Weights.{computed_weights, computed_flags, AreComputed}
use Rattle.sheet_tally.specs.Tallies.{tally_questions, with_runs, added_to}
use Rattle.sheet_tally.specs.declared.Tally.{Tally}
use Rattle.marks.specs.Marks.{is_open_at, open_pieces, carried_marks}
use Rattle.sheet_step.specs.Steps.{Sheet, sheet, carry, pieces_of, verdict, effect, Did}
use Rattle.sheet_step.proofs.StepLaws.{verdict-own, refused-did, done-did}
use Rattle.sheet_turn.specs.Turns.{common_no}
use Rattle.sheet_turn.proofs.TurnLaws.{called-yes}

module _ (g : Study) (s : Sheet) {z : Sizes} (y : common_no g s ≡ 0) (ez : z ≡ sizes_of g) where
  -- the pieces by the counts that are made once
  pieces_are : pieces_of z ≡ pieces_of (sizes_of g)
  pieces_are = ap (λ (x : Sizes). pieces_of x) ez

  -- its runs
  abbrev pub opens : ℕ
  opens = open_pieces (pieces_of z) s.marks

  opens-are : opens ≡ open_pieces (pieces_of (sizes_of g)) s.marks
  opens-are = ap (λ (n : ℕ). open_pieces n s.marks) pieces_are

  module _ (worker : ℤ) where
    room_for : verdict g s (carry worker) ≡ first_no (tally_questions s.tally worker opens)
    room_for = verdict-own g s (carry worker) y ∙ ap (λ (n : ℕ). first_no (tally_questions s.tally worker n)) (sym opens-are)

    pub carry-full : (why : Refusal) → ◌≡◌ {A = Result Tally Refusal} (Err why) (added_to s.tally worker opens) → Did g s (carry worker) (Err why) s
    carry-full why e =
        let n = first_no (tally_questions s.tally worker opens) in
        refused-did g s (carry worker) n why (refused-is n n why (record { runs = with_runs s.tally worker opens }) tt e refl) room_for

    pub carry-done : {w : List Float} {f : List ℤ} {m : List ℕ} (sum : Tally) → ◌≡◌ {A = Result Tally Refusal} (Ok sum) (added_to s.tally worker opens)
        → AreComputed g (is_open_at (pieces_of z) s.marks) s.weights s.flags w f → m ≡ carried_marks (pieces_of z) s.marks
        → Did g s (carry worker) (Ok sum) (sheet w f m sum.runs)
    unfolding effect
    carry-done {w} {f} {m} sum e b em =
        let a = given-is (first_no (tally_questions s.tally worker opens)) sum (record { runs = with_runs s.tally worker opens }) e in
        done-did g s (carry worker) sum w f m
        (called-yes g s (carry worker) sum.runs w f m (room_for ∙ a.0) (ap (λ (t : Tally). t.runs) a.1 ∙ ap (with_runs s.tally worker) opens-are)
        (b.weights-are ∙ (λ i. computed_weights g (is_open_at (pieces_are i) s.marks) s.weights))
        (b.flags-are ∙ (λ i. computed_flags g (is_open_at (pieces_are i) s.marks) s.flags))
        (em ∙ (λ i. carried_marks (pieces_are i) s.marks)))
