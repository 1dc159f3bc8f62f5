-- A list that one of 3 to 13 refuses, and what playing a list asks itself and answers. Assumes nothing.
use mathlib.Core.Path.{◌≡◌, refl, sym, ap, ◌∙◌}
use mathlib.Core.List.{List, [], ◌∷◌, ◌++◌, append_assoc, append-nil}
use Prim.Native.Nat.{ℕ, zero, suc, ◌*◌}
use native.Mathlib.Omega.{arith}
use borrow.Author.Tests.{eqb-true}
use lib.Dec.{eqb}
use lib.Ieee.{Float}
use lib.IntN.{ℤ}
use lib.ListN.{length, replicate}
use Rattle.list_laws.specs.Lists.{rows, tabulate}
use Rattle.list_laws.proofs.BoolLaws.{and_left, and_right}
use Rattle.ask.specs.Ask.{asks}
use Rattle.ask.proofs.AskLaws.{all_yes, after-done}
use Rattle.triplet_study.specs.Study.{Study}
use Rattle.std.specs.declared.result.Result.TheVariants.{Ok}
use Rattle.ask.proofs.RefusalLaws.{done-is}
use Rattle.sheet_tally.specs.declared.Tally.{Tally}
use Rattle.sheet_tally.specs.Tallies.{sixteen_of}
use Rattle.sheet_step.specs.Steps.{Sheet, sheet, Call, verdict, step, step_answer}
use Rattle.sheet_step.proofs.StepLaws.{verdict-common, refused-sheet}
use Rattle.book_claim.specs.Lists.{played}
use Rattle.sheet_calls.specs.Calls.{calls_of}
use Rattle.sheet_turn.specs.Turns.{common_no}
use Rattle.sheet_play.specs.Outcomes.{number_in, numbers, tallies, outcome, outcome_of}
use Rattle.sheet_play.proofs.OutcomeLaws.{number_is, calls-many}
use Rattle.sheet_list.specs.Play.{are_list_lengths, list_no, DidPlay}

-- ---- rows that are all one row

row_first : (n : ℕ) (row : List ℕ) → rows n (λ i. row) ++ row ≡ row ++ rows n (λ i. row)
unfolding rows
row_first zero row = sym (append-nil row)
row_first (suc n) row = ap (λ (l : List ℕ). l ++ row) (row_first n row) ∙ append_assoc row (rows n (λ i. row)) row

-- ---- every call is refused with that number

module _ (g : Study) (s : Sheet) (n : ℕ) (e : n ≡ common_no g s) (h : n ≡ 0 → ⊥) where
  refused : (c : Call) → verdict g s c ≡ n
  refused c = verdict-common g s c (λ z. h (e ∙ z)) ∙ sym e

  stays : (c : Call) → step g s c ≡ s
  stays c = sym (refused-sheet g s c n (refused c) h)

  pub played-refused : (calls : List Call) → played g s calls ≡ s
  played-refused [] = refl
  played-refused (c ∷ calls) = ap (λ (x : Sheet). played g x calls) (stays c) ∙ played-refused calls

  pub numbers-refused : (calls : List Call) → numbers g s calls ≡ replicate (length calls) n
  numbers-refused [] = refl
  numbers-refused (c ∷ calls) =
      ap (λ (x : Sheet). number_in (step_answer g s c) ∷ numbers g x calls) (stays c)
      ∙ ap (λ (k : ℕ). k ∷ numbers g s calls) (number_is g s c ∙ refused c)
      ∙ ap (λ (l : List ℕ). n ∷ l) (numbers-refused calls)

  pub tallies-refused : (calls : List Call) → tallies g s calls ≡ rows (length calls) (λ i. sixteen_of s.tally)
  unfolding rows
  tallies-refused [] = refl
  tallies-refused (c ∷ calls) =
      ap (λ (x : Sheet). sixteen_of x.tally ++ tallies g x calls) (stays c)
      ∙ ap (λ (l : List ℕ). sixteen_of s.tally ++ l) (tallies-refused calls)
      ∙ sym (row_first (length calls) (sixteen_of s.tally))

module _ (g : Study) (start : Sheet) (list ids : List ℤ) (n : ℕ) (long : length list ≡ n * 6) where
  pub outcome-refused : (v : ℕ) → v ≡ common_no g start → (v ≡ 0 → ⊥) → outcome start (replicate n v) (rows n (λ i. sixteen_of start.tally)) ≡ outcome_of g start (calls_of list ids)
  unfolding outcome_of
  outcome-refused v e h =
      let a : replicate n v ≡ numbers g start (calls_of list ids) = ap (λ (k : ℕ). replicate k v) (sym (calls-many g start list ids n long)) ∙ sym (numbers-refused g start v e h (calls_of list ids)) in
      let b : rows n (λ i. sixteen_of start.tally) ≡ tallies g start (calls_of list ids) = ap (λ (k : ℕ). rows k (λ i. sixteen_of start.tally)) (sym (calls-many g start list ids n long)) ∙ sym (tallies-refused g start v e h (calls_of list ids)) in
      let p : start ≡ played g start (calls_of list ids) = sym (played-refused g start v e h (calls_of list ids)) in
      λ i. outcome (p i) (a i) (b i)

-- ---- a list of one number

pub tabulate-same : (n v : ℕ) → tabulate n (λ i. v) ≡ replicate n v
unfolding tabulate
tabulate-same zero v = refl
tabulate-same (suc n) v = ap (λ (l : List ℕ). l ++ (v ∷ [])) (tabulate-same n v) ∙ last n
  where
    last : (n : ℕ) → replicate n v ++ (v ∷ []) ≡ v ∷ replicate n v
    last zero = refl
    last (suc n) = ap (λ (l : List ℕ). v ∷ l) (last n)

-- ---- its own question, and its answer

pub list-yes : (list answers tallies : ℕ) → list_no list answers tallies ≡ 0 → (list ≡ answers * 6) × (tallies ≡ answers * 16)
unfolding list_no are_list_lengths
list-yes list answers tallies e =
    let y : _ = all_yes (asks 12 (are_list_lengths list answers tallies) ∷ []) (omega arith, tt) e in (
      eqb-true list (answers * 6) (and_left (eqb list (answers * 6)) (eqb tallies (answers * 16)) y.0),
      eqb-true tallies (answers * 16) (and_right (eqb list (answers * 6)) (eqb tallies (answers * 16)) y.0),
    )

-- what playing a list did, refused by its own question or done
module _ (g : Study) (s : Sheet) (calls : List Call) (number : ℕ) (answers tallies : List ℕ) where
  -- the buffers end as the list's buffers do
  pub play-done : (t : Tally) (w : List Float) (f : List ℤ) (m a ts : List ℕ) → number ≡ 0 → outcome (sheet w f m t.runs) a ts ≡ outcome_of g s calls
      → {a' ts' : List ℕ} → a' ≡ a → ts' ≡ ts → DidPlay g s calls number answers tallies (Ok t) (outcome (sheet w f m t.runs) a' ts')
  play-done t w f m a ts e q ea et = record {
    answers_with = done-is number t e;
    leaves = (λ i. outcome (sheet w f m t.runs) (ea i) (et i)) ∙ q ∙ after-done number (outcome_of g s calls) (outcome s answers tallies) e;
  }
