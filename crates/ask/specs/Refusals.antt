-- The answer of a call by the number of its first no: what it gives, or why it is refused.
use Rattle.std.specs.Prelude.{ℕ, zero, suc, Bool, true, ◌&&◌, leb, List, [], ◌∷◌, get_or}
use Rattle.std.specs.declared.result.Result.{Result}
use Rattle.std.specs.declared.result.Result.TheVariants.{Ok, Err}
use Rattle.ask.specs.Ask.{Question, asks}
use Rattle.ask.specs.declared.refusal.Refusal.{Refusal}
use Rattle.ask.specs.declared.refusal.Refusal.TheVariants as refusal

-- the number of each question
abbrev pub refusal_number : Refusal → ℕ
refusal_number refusal.Text = 1
refusal_number refusal.Lattice = 2
refusal_number refusal.GridKind = 3
refusal_number refusal.Mesh = 4
refusal_number refusal.Addresses = 5
refusal_number refusal.Map = 6
refusal_number refusal.Table = 7
refusal_number refusal.TpType = 8
refusal_number refusal.Counts = 9
refusal_number refusal.GridPoints = 10
refusal_number refusal.Frequencies = 11
refusal_number refusal.Lengths = 12
refusal_number refusal.Marks = 13
refusal_number refusal.NotOnSheet = 14
refusal_number refusal.AlreadyAveraged = 15
refusal_number refusal.UnequalBands = 16
refusal_number refusal.DegenerateIds = 17
refusal_number refusal.NotComputed = 18
refusal_number refusal.Weights = 19
refusal_number refusal.TallyFull = 20
refusal_number refusal.Worker = 21
refusal_number refusal.Listing = 22
refusal_number refusal.TableRows = 23
refusal_number refusal.Faces = 24
refusal_number refusal.Cones = 25

-- the questions in their order
abbrev pub refusals : List Refusal
refusals =
    refusal.Text ∷ refusal.Lattice ∷ refusal.GridKind ∷ refusal.Mesh ∷
    refusal.Addresses ∷ refusal.Map ∷ refusal.Table ∷ refusal.TpType ∷
    refusal.Counts ∷ refusal.GridPoints ∷ refusal.Frequencies ∷ refusal.Lengths ∷
    refusal.Marks ∷ refusal.NotOnSheet ∷ refusal.AlreadyAveraged ∷ refusal.UnequalBands ∷
    refusal.DegenerateIds ∷ refusal.NotComputed ∷ refusal.Weights ∷ refusal.TallyFull ∷
    refusal.Worker ∷ refusal.Listing ∷ refusal.TableRows ∷ refusal.Faces ∷
    refusal.Cones ∷ []

-- the question of a number from 1 to 25
abbrev pub refusal_of : ℕ → Refusal
refusal_of zero = refusal.Text
refusal_of (suc n) = get_or refusals n refusal.Cones

-- what a call gives where every question is answered yes, otherwise the first that is answered no
abbrev pub answer_of : {A : Type 0} → ℕ → A → Result A Refusal
answer_of zero given = Ok given
answer_of (suc n) given = Err (refusal_of (suc n))

-- the number of an answer: 0 where the call is done
abbrev pub number_of : {A : Type 0} → Result A Refusal → ℕ
number_of (Ok given) = 0
number_of (Err why) = refusal_number why

-- no question has a number past 25
abbrev pub are_numbers : List Question → Bool
are_numbers [] = true
are_numbers (asks n b ∷ qs) = leb n 25 && are_numbers qs
