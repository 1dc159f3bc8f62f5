-- The questions of calls that ask one or two, in the form of a status, and what two numbers of a foreign caller name.
use Rattle.std.specs.Prelude.{Bool, cond, List, [], ◌∷◌, ℕ, eqb, ℤ}
use Rattle.std.specs.declared.result.Result.{Result}
use Rattle.std.specs.declared.result.Result.TheVariants.{Ok, Err}
use Rattle.ask.specs.Ask.{Question, asks}
use Rattle.ask.specs.declared.refusal.Refusal.{Refusal}
use Rattle.question_grids.specs.Grids.{is_mesh}
use Rattle.tetrahedron_method.specs.declared.WeightFunction.{WeightFunction}
use Rattle.tetrahedron_method.specs.declared.WeightFunction.TheVariants.{I, J}

-- the letter I (73) names I; any other byte names J, as the source has it: "non-'I' branch: piecewise J"
unfoldable pub function_of : ℕ → WeightFunction
function_of letter = cond (eqb letter 73) I J

-- 1 for yes, 0 for no
abbrev pub one_of : Bool → ℕ
one_of b = cond b 1 0

-- the grid index: "Is each mesh number .. (the grid index alone: 1 to 256, its address any)? No: 4."
abbrev pub index_questions : List ℤ → List Question
index_questions diag = asks 4 (is_mesh 256 diag) ∷ []

-- what stands behind a reference after a call: what it gives, and after a refusal what stood there
abbrev pub stored_of : {A : Type 0} → Result A Refusal → A → A
stored_of (Ok given) old = given
stored_of (Err why) old = old
