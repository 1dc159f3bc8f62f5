-- "A cut leaves sheet and tally as the call before it left them": a list that is cut after any call and played in two goes. Assumes nothing.
use mathlib.Core.Path.{◌≡◌, ap, ◌∙◌}
use mathlib.Core.List.{List, ◌++◌, map, map-append}
use Prim.Native.Nat.{ℕ, ◌+◌, ◌*◌, ◌/◌, ◌<◌}
use native.Mathlib.Omega.{arith}
use lib.IntN.{ℤ, pos}
use lib.ListN.{length, length-append, get_or-append}
use lib.Seq.{get_or-append-add}
use Rattle.list_laws.specs.Lists.{tabulate}
use Rattle.list_laws.proofs.FillLaws.{tabulate-ext, tabulate-cut}
use Rattle.triplet_study.specs.Study.{Study}
use Rattle.sheet_step.specs.Steps.{Sheet, Call}
use Rattle.book_claim.specs.Lists.{played, answers}
use Rattle.book_claim.proofs.CutLaws.{played-cut, answers-cut}
use Rattle.sheet_calls.specs.Calls.{number_at, call_of, call_at, calls_of}
use Rattle.sheet_play.specs.Outcomes.{number_in, numbers, tallies}
use Rattle.sheet_play.proofs.OutcomeLaws.{tallies-cut}

module _ (first rest ids : List ℤ) (n : ℕ) (h : length first ≡ n * 6) where
  number-first : (i k : ℕ) → i < n → k < 6 → number_at (first ++ rest) i k ≡ number_at first i k
  number-first i k l m = get_or-append first rest (pos 0) (i * 6 + k) (omega (arith, h))

  number-rest : (i k : ℕ) → number_at (first ++ rest) (n + i) k ≡ number_at rest i k
  number-rest i k =
      let e : (n + i) * 6 + k ≡ length first + (i * 6 + k) = omega (arith, h) in
      rw e (get_or-append-add first rest (i * 6 + k) (pos 0))

  call-first : (i : ℕ) → i < n → call_at (first ++ rest) ids i ≡ call_at first ids i
  unfolding call_at
  call-first i l =
      λ j. call_of ids (number-first i 0 l (omega arith) j) (number-first i 1 l (omega arith) j) (number-first i 2 l (omega arith) j)
      (number-first i 3 l (omega arith) j) (number-first i 4 l (omega arith) j) (number-first i 5 l (omega arith) j)

  call-rest : (i : ℕ) → call_at (first ++ rest) ids (n + i) ≡ call_at rest ids i
  unfolding call_at
  call-rest i =
      λ j. call_of ids (number-rest i 0 j) (number-rest i 1 j) (number-rest i 2 j) (number-rest i 3 j) (number-rest i 4 j) (number-rest i 5 j)

  -- the numbers of two lists one after the other encode the calls of the one and then of the other
  pub calls-cut : calls_of (first ++ rest) ids ≡ calls_of first ids ++ calls_of rest ids
  unfolding calls_of
  calls-cut =
      let e : length (first ++ rest) / 6 ≡ n + length rest / 6 = ap (λ (m : ℕ). m / 6) (length-append first rest) ∙ omega (arith, h) in
      let f : length first / 6 ≡ n = omega (arith, h) in
      rw (e, f) (tabulate-cut n (length rest / 6) (call_at (first ++ rest) ids)
      ∙ ap (λ (l : List Call). l ++ tabulate (length rest / 6) (λ i. call_at (first ++ rest) ids (n + i))) (tabulate-ext n (call_at (first ++ rest) ids) (call_at first ids) call-first)
      ∙ ap (λ (l : List Call). tabulate n (call_at first ids) ++ l) (tabulate-ext (length rest / 6) _ (call_at rest ids) (λ i _. call-rest i)))

  -- playing both at once, or the rest on what the first left: one sheet and tally, the same numbers, the same tallies
  pub played-resumed : (g : Study) (s : Sheet) → played g s (calls_of (first ++ rest) ids) ≡ played g (played g s (calls_of first ids)) (calls_of rest ids)
  played-resumed g s = ap (played g s) calls-cut ∙ played-cut g s (calls_of first ids) (calls_of rest ids)

  pub numbers-resumed : (g : Study) (s : Sheet)
      → numbers g s (calls_of (first ++ rest) ids) ≡ numbers g s (calls_of first ids) ++ numbers g (played g s (calls_of first ids)) (calls_of rest ids)
  numbers-resumed g s =
      ap (numbers g s) calls-cut
      ∙ ap (map number_in) (answers-cut g s (calls_of first ids) (calls_of rest ids))
      ∙ map-append number_in (answers g s (calls_of first ids)) (answers g (played g s (calls_of first ids)) (calls_of rest ids))

  pub tallies-resumed : (g : Study) (s : Sheet)
      → tallies g s (calls_of (first ++ rest) ids) ≡ tallies g s (calls_of first ids) ++ tallies g (played g s (calls_of first ids)) (calls_of rest ids)
  tallies-resumed g s = ap (tallies g s) calls-cut ∙ tallies-cut g s (calls_of first ids) (calls_of rest ids)
