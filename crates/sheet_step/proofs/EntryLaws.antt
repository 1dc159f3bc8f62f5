-- A call on a tested study is one on the study that was given. Assumes nothing.
use mathlib.Core.Path.{◌≡◌, ap, subst, subst⁻¹}
use mathlib.Core.Bool.{true}
use Prim.Native.Nat.{◌≤◌}
use native.Mathlib.Omega.{arith}
use lib.ListN.{length}
use Rattle.std.specs.declared.result.Result.{Result}
use Rattle.ask.specs.Ask.{first_no}
use Rattle.ask.specs.declared.refusal.Refusal.{Refusal}
use Rattle.question_grids.specs.Grids.{are_triples}
use Rattle.triplet_study.specs.declared.Study.{Study as LentStudy}
use Rattle.triplet_study.specs.declared.tested.TestedStudy.{TestedStudy}
use Rattle.triplet_study.specs.Lent.{study_of}
use Rattle.triplet_study.specs.Study.{Study}
use Rattle.triplet_study.proofs.TestedLaws.{tested-keeps}
use Rattle.sheet_tally.specs.declared.Tally.{Tally}
use Rattle.sheet_step.specs.Steps.{Sheet, Call, Did}
use Rattle.sheet_step.proofs.StepLaws.{common_of}

-- its steps are triples, and few
pub tested-steps : (t : TestedStudy) → (length t.study.relative_grid_address.now ≤ 1152) × (are_triples t.study.relative_grid_address.now ≡ true)
tested-steps t = let k = tested-keeps t in (omega (arith, k.rows_whole, k.rows-high), k.table)

module _ (t : TestedStudy) {given : LentStudy} (same : t.study ≡ given) (s : Sheet) where
  -- 3 to 13 said yes
  pub tested-yes : first_no (common_of (study_of given) s) ≡ 0 → first_no (common_of (study_of t.study) s) ≡ 0
  tested-yes y = subst⁻¹ (λ (x : Study). first_no (common_of x s) ≡ 0) (ap study_of same) y

  -- what it did
  pub tested-did : {c : Call} {a : Result Tally Refusal} {left : Sheet} → Did (study_of t.study) s c a left → Did (study_of given) s c a left
  tested-did {c} {a} {left} d = subst (λ (x : Study). Did x s c a left) (ap study_of same) d
