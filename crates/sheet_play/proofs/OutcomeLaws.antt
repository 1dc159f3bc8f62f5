-- The calls of a list, one after the other: what each leaves, and what stands after the last. Assumes nothing.
use mathlib.Core.Path.{◌≡◌, refl, sym, ap, ◌∙◌, subst}
use mathlib.Core.List.{List, [], ◌∷◌, ◌++◌, map, map-append, append_assoc, append-nil}
use Prim.Native.Nat.{ℕ, zero, suc, ◌+◌, ◌*◌}
use native.Mathlib.Numerals.{add-one}
use native.Mathlib.Omega.{arith}
use lib.Ieee.{Float}
use lib.IntN.{ℤ}
use lib.ListN.{length}
use Rattle.list_laws.specs.Lists.{tabulate, rows, fronted}
use Rattle.list_laws.proofs.FillLaws.{front-all, length-tabulate}
use Rattle.triplet_study.specs.Study.{Study}
use Rattle.std.specs.declared.result.Result.{Result}
use Rattle.ask.specs.Refusals.{number_of}
use Rattle.ask.specs.declared.refusal.Refusal.{Refusal}
use Rattle.sheet_tally.specs.declared.Tally.{Tally}
use Rattle.sheet_tally.specs.Tallies.{sixteen_of, runs_after}
use Rattle.sheet_step.proofs.StepLaws.{called}
use Rattle.sheet_step.specs.Steps.{Sheet, sheet, Call, Called, Did, verdict, step, step_answer}
use Rattle.book_claim.specs.Lists.{played, answers}
use Rattle.book_claim.proofs.CutLaws.{played-cut, answers-cut}
use Rattle.sheet_calls.specs.Calls.{call_at, calls_of}
use Rattle.sheet_turn.specs.Turns.{common_no}
use Rattle.sheet_play.specs.Outcomes.{number_in, numbers, tallies, outcome, outcome_of}
use Rattle.sheet_play.proofs.KeptLaws.{common-kept}

-- the number of an answer is the verdict
pub number_is : (g : Study) (s : Sheet) (c : Call) → number_in (step_answer g s c) ≡ verdict g s c
number_is g s c = refl

-- what a call came to, by what it did, with its number and the counts that are stored
pub told : {g : Study} {s : Sheet} {c : Call} {a : Result Tally Refusal} {w : List Float} {f : List ℤ} {m after : List ℕ} {number : ℕ} (before : List ℕ)
    → Did g s c a (sheet w f m (runs_after a before)) → number ≡ number_of a → after ≡ runs_after a before → Called g s c number (sheet w f m after)
told {w} {f} {m} before d n r = let k = called d in record { says = n ∙ k.says; leaves = ap (sheet w f m) r ∙ k.leaves }

-- ---- the first calls

module _ (g : Study) (start : Sheet) (call : ℕ → Call) where
  -- the sheet after the first i of them
  abbrev pub after : ℕ → Sheet
  after i = played g start (tabulate i call)

  -- the number of call i, and the tally after it
  abbrev pub number_after : ℕ → ℕ
  number_after i = verdict g (after i) (call i)

  abbrev pub tally_after : ℕ → List ℕ
  tally_after i = sixteen_of (step g (after i) (call i)).tally

  pub after_none : start ≡ after 0
  unfolding tabulate
  after_none = refl

  after_next : (i : ℕ) → step g (after i) (call i) ≡ after (suc i)
  unfolding tabulate
  after_next i = sym (played-cut g start (tabulate i call) (call i ∷ []))

  -- 3 to 13 say yes before every call, where they do before the first
  pub common-after : common_no g start ≡ 0 → (i : ℕ) → common_no g (after i) ≡ 0
  unfolding tabulate
  common-after e zero = e
  common-after e (suc i) = subst (λ (x : Sheet). common_no g x ≡ 0) (after_next i) (common-kept g (after i) (call i) (common-after e i))

  -- one call more
  module _ (i : ℕ) (s : Sheet) (e : s ≡ after i) {number : ℕ} {left : Sheet} (t : Called g s (call i) number left) where
    pub sheet-next : left ≡ after (i + 1)
    sheet-next = t.leaves ∙ ap (λ (x : Sheet). step g x (call i)) e ∙ after_next i ∙ ap after (sym (add-one i))

    pub number-next : number ≡ number_after i
    number-next = t.says ∙ ap (λ (x : Sheet). verdict g x (call i)) e

    pub tally-next : sixteen_of left.tally ≡ tally_after i
    tally-next = ap (λ (x : Sheet). sixteen_of x.tally) t.leaves ∙ ap (λ (x : Sheet). sixteen_of (step g x (call i)).tally) e

  -- ---- all of them

  all-numbers : (n : ℕ) → tabulate n number_after ≡ numbers g start (tabulate n call)
  unfolding tabulate
  all-numbers zero = refl
  all-numbers (suc n) =
      ap (λ (l : List ℕ). l ++ (number_after n ∷ [])) (all-numbers n)
      ∙ ap (λ (k : ℕ). numbers g start (tabulate n call) ++ (k ∷ [])) (sym (number_is g (after n) (call n)))
      ∙ sym (map-append number_in (answers g start (tabulate n call)) (step_answer g (after n) (call n) ∷ []))
      ∙ ap (map number_in) (sym (answers-cut g start (tabulate n call) (call n ∷ [])))

pub tallies-cut : (g : Study) (s : Sheet) (first rest : List Call) → tallies g s (first ++ rest) ≡ tallies g s first ++ tallies g (played g s first) rest
tallies-cut g s [] rest = refl
tallies-cut g s (c ∷ first) rest = ap (λ (l : List ℕ). sixteen_of (step g s c).tally ++ l) (tallies-cut g (step g s c) first rest) ∙ sym (append_assoc (sixteen_of (step g s c).tally) (tallies g (step g s c) first) (tallies g (played g (step g s c) first) rest))

all-tallies : (g : Study) (start : Sheet) (call : ℕ → Call) (n : ℕ) → rows n (tally_after g start call) ≡ tallies g start (tabulate n call)
unfolding tabulate rows
all-tallies g start call zero = refl
all-tallies g start call (suc n) =
    ap (λ (l : List ℕ). l ++ tally_after g start call n) (all-tallies g start call n)
    ∙ ap (λ (l : List ℕ). tallies g start (tabulate n call) ++ l) (sym (append-nil (tally_after g start call n)))
    ∙ sym (tallies-cut g start (tabulate n call) (call n ∷ []))

-- ---- the end of the list

module _ (g : Study) (start : Sheet) (list ids : List ℤ) (n : ℕ) (h : length list ≡ n * 6) where
  calls_are : tabulate n (call_at list ids) ≡ calls_of list ids
  unfolding calls_of
  calls_are = ap (λ (k : ℕ). tabulate k (call_at list ids)) (omega (arith, h))

  pub calls-many : length (calls_of list ids) ≡ n
  calls-many = ap length (sym calls_are) ∙ length-tabulate n (call_at list ids)

  pub sheet-end : {s : Sheet} → s ≡ after g start (call_at list ids) n → s ≡ played g start (calls_of list ids)
  sheet-end e = e ∙ ap (played g start) calls_are

  pub numbers-end : (l : List ℕ) {a : List ℕ} → length l ≡ n → a ≡ fronted n (number_after g start (call_at list ids)) l → a ≡ numbers g start (calls_of list ids)
  numbers-end l q e =
      e ∙ front-all (number_after g start (call_at list ids)) l n q ∙ all-numbers g start (call_at list ids) n ∙ ap (numbers g start) calls_are

  pub tallies-end : {a : List ℕ} → a ≡ rows n (tally_after g start (call_at list ids)) → a ≡ tallies g start (calls_of list ids)
  tallies-end e = e ∙ all-tallies g start (call_at list ids) n ∙ ap (tallies g start) calls_are

  -- the three together, as they stand after the last call
  pub outcome-end : {s : Sheet} {a t : List ℕ} (l : List ℕ) → length l ≡ n → s ≡ after g start (call_at list ids) n
      → a ≡ fronted n (number_after g start (call_at list ids)) l → t ≡ rows n (tally_after g start (call_at list ids))
      → outcome s a t ≡ outcome_of g start (calls_of list ids)
  unfolding outcome_of
  outcome-end l el es ea et = λ i. outcome (sheet-end es i) (numbers-end l el ea i) (tallies-end et i)
