-- What a call on a sheet did, as a status and the sheet that it leaves. Assumes nothing.
use mathlib.Core.Path.{◌≡◌, refl, sym, ap, subst, ◌∙◌}
use mathlib.Core.List.{List}
use Prim.Native.Nat.{ℕ, ◌≤◌}
use lib.Ieee.{Float}
use lib.IntN.{ℤ}
use Rattle.std.specs.declared.result.Result.{Result}
use Rattle.triplet_study.specs.Study.{Study}
use Rattle.ask.specs.Refusals.{number_of}
use Rattle.ask.specs.declared.refusal.Refusal.{Refusal}
use Rattle.ask.proofs.RefusalLaws.{first-low, number-is}
use Rattle.sheet_tally.specs.declared.Tally.{Tally}
use Rattle.sheet_tally.specs.Tallies.{runs_after}
use Rattle.sheet_step.specs.Steps.{Sheet, sheet, Call, verdict, step, Called, Did}
use Rattle.sheet_step.proofs.StepLaws.{verdict-low}
use Rattle.sheet_play.specs.Outcomes.{Outcome, outcome}
use Rattle.sheet_list.specs.Play.{list_no, DidPlay}
use Rattle.pelmetsavory.specs.Sheets.{CalledPlay}

-- `seen` is the call as the code below sees it, `call` as its caller names it; `after` are the counts that are stored; the buffers are those that the call was lent
pub called : (g : Study) (s : Sheet) (seen call : Call) → seen ≡ call → (a : Result Tally Refusal) (w : List Float) (f : List ℤ) (m before after : List ℕ)
    → Did g s seen a (sheet w f m (runs_after a before)) → after ≡ runs_after a before → (status : ℕ) → status ≡ number_of a
    → {w' : List Float} {f' : List ℤ} {m' : List ℕ} → w' ≡ w → f' ≡ f → m' ≡ m → Called g s call status (sheet w' f' m' after)
called g s seen call same a w f m before after h t status e ew ef em = record {
  says = e ∙ ap number_of h.answers ∙ number-is (verdict g s seen) _ (verdict-low g s seen) ∙ ap (verdict g s) same;
  leaves = (λ i. sheet (ew i) (ef i) (em i) (t i)) ∙ h.leaves ∙ ap (step g s) same;
}

no-low : (list answers tallies : ℕ) → list_no list answers tallies ≤ 25
unfolding list_no
no-low list answers tallies = first-low _ refl

-- a list of calls
pub called-play : (g : Study) (s : Sheet) (calls : List Call) (l n k : ℕ) (answers tallies : List ℕ) (a : Result Tally Refusal)
    (w : List Float) (f : List ℤ) (m before after numbers counts : List ℕ)
    → DidPlay g s calls (list_no l n k) answers tallies a (outcome (sheet w f m (runs_after a before)) numbers counts) → after ≡ runs_after a before
    → (status : ℕ) → status ≡ number_of a → {w' : List Float} {f' : List ℤ} {m' : List ℕ} → w' ≡ w → f' ≡ f → m' ≡ m
    → CalledPlay g s calls (list_no l n k) answers tallies status (outcome (sheet w' f' m' after) numbers counts)
called-play g s calls l n k answers tallies a w f m before after numbers counts h t status e ew ef em = record {
  status-is = e ∙ ap number_of h.answers_with ∙ number-is (list_no l n k) _ (no-low l n k);
  leaves = (λ i. outcome (sheet (ew i) (ef i) (em i) (t i)) numbers counts) ∙ h.leaves;
}
