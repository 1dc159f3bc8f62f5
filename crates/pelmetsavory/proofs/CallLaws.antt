-- What a call did, as a status and what it left. Assumes nothing.
use mathlib.Core.Path.{◌≡◌, refl, ap, ◌∙◌}
use mathlib.Core.List.{List}
use Prim.Native.Nat.{ℕ}
use lib.Ieee.{Float}
use lib.IntN.{ℤ}
use lib.ListN.{length}
use Rattle.std.specs.declared.result.Result.{Result}
use Rattle.ask.specs.declared.refusal.Refusal.{Refusal}
use Rattle.ask.specs.Refusals.{number_of}
use Rattle.ask.proofs.RefusalLaws.{first-low, number-is}
use Rattle.grid_point_weights.specs.Calls.{GridPointCall, grid_point_no, weighed, DidWeigh}
use Rattle.bzgrid.specs.Calls.{Around, point_questions, point_no, DidFind, many_questions, many_no, DidFindAll}
use Rattle.customer_tables.specs.Calls.{checked_no, checked_weighed, DidWeighChecked}
use Rattle.pelmetsavory.specs.Calls.{CalledWeigh, CalledWeighChecked, CalledFind, CalledFindAll}

-- `seen` is the call as the code below sees it, `call` as its caller names it
pub called-weigh : (seen call : GridPointCall) → seen ≡ call → (a : Result (Unit {0}) Refusal) (old new : List Float) → DidWeigh seen a old new → (status : ℕ) → status ≡ number_of a
    → CalledWeigh call status old new
called-weigh seen call same a old new did status s =
    (s ∙ ap number_of did.0 ∙ number-is (grid_point_no seen old) tt (first-low _ refl) ∙ ap (λ (g : GridPointCall). grid_point_no g old) same, did.1 ∙ ap (λ (g : GridPointCall). weighed g old) same)

-- the same under a table of the caller's
pub called-weigh-checked : (seen call : GridPointCall) → seen ≡ call → (a : Result (Unit {0}) Refusal) (old new : List Float) → DidWeighChecked seen a old new → (status : ℕ) → status ≡ number_of a
    → CalledWeighChecked call status old new
called-weigh-checked seen call same a old new did status s =
    (s ∙ ap number_of did.0 ∙ number-is (checked_no seen old) tt (first-low _ refl) ∙ ap (λ (g : GridPointCall). checked_no g old) same, did.1 ∙ ap (λ (g : GridPointCall). checked_weighed g old) same)

-- ---- the neighbours of one point, and of many

pub called-find : (a : Around) (point : ℤ) (r : Result Unit Refusal) (old new : List ℤ) → DidFind a point r old new → (status : ℕ) → status ≡ number_of r
    → CalledFind a point status old new
called-find a point r old new did status s =
    (s ∙ ap number_of did.0 ∙ number-is (point_no a point old) tt (first-low (point_questions a point (length old)) refl), did.1)

pub called-find-all : (a : Around) (points : List ℤ) (r : Result Unit Refusal) (old new : List ℤ) → DidFindAll a points r old new → (status : ℕ) → status ≡ number_of r
    → CalledFindAll a points status old new
called-find-all a points r old new did status s =
    (s ∙ ap number_of did.0 ∙ number-is (many_no a points old) tt (first-low (many_questions a points (length old)) refl), did.1)
