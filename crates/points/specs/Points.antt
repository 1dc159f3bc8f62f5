-- The starred points to check, as one list, and what each claims of the definitions that the contracts cite.
use Rattle.std.specs.Prelude.{ℕ, zero, suc, ◌≡◌, List, [], ◌∷◌, ◌++◌, ℤ, pos, negsuc, length, Float}
use Rattle.std.specs.Float.{binary64}
use Rattle.std.specs.Float.Ieee.{of_bits}
use Rattle.std.specs.declared.result.Result.TheVariants.{Ok}
use Rattle.ieee_laws.specs.Zeros.{zero_f}
use Rattle.ask.specs.Ask.{first_no}
use Rattle.ask.specs.Refusals.{answer_of}
use Rattle.bzgrid_lookup.specs.Neighbours.{grid_of}
use Rattle.bzgrid.specs.Calls.{many_questions}
use Rattle.bzgrid.specs.Lists.{neighbours_of_all}
use Rattle.relative_grid_address.specs.Answer.{table_answer, numbered_table}
use Rattle.averaging.specs.Answers.{averaging_answer, weights_after, flags_after}
use Rattle.tetrahedron_fractions.specs.Binary64.{one, three, four}
use Rattle.tetrahedron_fractions.specs.Branch.{values}
use Rattle.tetrahedron_method.specs.Answer.{integration_weight_answer}
use Rattle.tetrahedron_method.specs.declared.WeightFunction.{WeightFunction}
use Rattle.tetrahedron_method.specs.declared.WeightFunction.TheVariants.{I, J}
use Rattle.tetrahedron_sort.specs.Sort.{sort_of}

-- -1.0
abbrev pub minus_one : Float
minus_one = of_bits binary64 0xbff0_0000_0000_0000

-- 2.0
abbrev pub two : Float
two = of_bits binary64 0x4000_0000_0000_0000

-- 3.5
abbrev pub seven-halves : Float
seven-halves = of_bits binary64 0x400c_0000_0000_0000

-- 5.0
abbrev pub five : Float
five = of_bits binary64 0x4014_0000_0000_0000

-- 0.0625
abbrev pub sixteenth : Float
sixteenth = of_bits binary64 0x3fb0_0000_0000_0000

-- 0.3125
abbrev pub five-sixteenths : Float
five-sixteenths = of_bits binary64 0x3fd4_0000_0000_0000

-- 0.375
abbrev pub three-eighths : Float
three-eighths = of_bits binary64 0x3fd8_0000_0000_0000

-- 5e-11
abbrev pub tiny : Float
tiny = of_bits binary64 0x3dcb_7cdf_d9d7_bdbb

-- k equal rows
abbrev pub equal_rows : List Float → ℕ → List Float
equal_rows r zero = []
equal_rows r (suc k) = r ++ equal_rows r k

-- the kinds of points
pub data Point : Type 0 where
  -- 24 equal rows at omega have this weight, I or J
  weighs : WeightFunction → List Float → Float → Float → Point
  -- the first of the row's values stands at this place
  stands : List Float → ℕ → Point
  -- the lattice, row by row, picks the table of this number
  picks : List (List Float) → ℕ → Point
  -- on a grid of this kind, mesh, addresses and map, these steps lead from these points to these numbers
  leads : ℤ → List ℤ → List ℤ → List ℤ → List ℤ → List ℤ → List ℤ → Point
  -- of a count of bands, with two id lists, these weights and flags of one channel and one point become those
  averages : ℤ → List ℤ → List ℤ → List Float → List Float → List ℤ → List ℤ → Point

-- what a point claims
abbrev pub Claim : Point → Type 0
Claim (weighs u r w x) = integration_weight_answer w (equal_rows r 24) u ≡ Ok x
Claim (stands r p) = (sort_of r).place ≡ p
Claim (picks l n) = table_answer l ≡ Ok (numbered_table n)
Claim (leads kind mesh addresses gp-map steps from to) =
    (answer_of (first_no (many_questions (record { kind = kind; diag = mesh; addresses = addresses; gp-map = gp-map; steps = steps }) from (length to))) (tt {0}) ≡ Ok (tt {0}))
    × (neighbours_of_all (grid_of kind mesh) addresses gp-map steps from ≡ to)
Claim (averages bands ids1 ids2 w w' z z') =
    (averaging_answer w z ids1 ids2 (pos 1) bands (pos 4) ≡ Ok tt)
    × ((weights_after w z ids1 ids2 (pos 1) bands (pos 4) ≡ w') × (flags_after w z ids1 ids2 (pos 1) bands (pos 4) ≡ z'))

-- all points of a list hold
abbrev pub Every : List Point → Type 0
Every [] = Unit
Every (p ∷ ps) = Claim p × Every ps

-- three numbers, as a mesh, a step or a row of whole entries
abbrev pub triple : {A : Type 0} → A → A → A → List A
triple a b c = a ∷ b ∷ c ∷ []

-- "Kind 2, mesh 2,1,1, first components 0, 1, -1 (others 0), map 0,1,3": from point 0 by a step along the first axis
abbrev pub from_origin : ℤ → ℤ → Point
from_origin step to =
    leads (pos 2) (triple (pos 2) (pos 1) (pos 1))
    (triple (pos 0) (pos 0) (pos 0) ++ (triple (pos 1) (pos 0) (pos 0) ++ triple (negsuc 0) (pos 0) (pos 0)))
    (triple (pos 0) (pos 1) (pos 3)) (triple step (pos 0) (pos 0)) (pos 0 ∷ []) (to ∷ [])

-- the starred points of document 01
abbrev pub points : List Point
points =
    weighs I (values zero_f four four four) two three-eighths
    ∷ weighs J (values zero_f four four four) two five-sixteenths
    ∷ weighs I (values zero_f four four four) minus_one zero_f
    ∷ weighs J (values zero_f four four four) minus_one zero_f
    ∷ weighs I (values zero_f four four four) zero_f zero_f
    ∷ weighs I (values zero_f four four four) four zero_f
    ∷ weighs J (values zero_f four four four) four one
    ∷ weighs J (values four zero_f four four) two sixteenth
    ∷ stands (values four zero_f four four) 2
    ∷ weighs I (values four zero_f zero_f zero_f) two three-eighths
    ∷ stands (values four zero_f zero_f zero_f) 3
    ∷ weighs I (values zero_f zero_f zero_f tiny) zero_f zero_f
    ∷ weighs J (values zero_f zero_f zero_f tiny) zero_f one
    ∷ picks (triple (triple one zero_f zero_f) (triple zero_f one zero_f) (triple zero_f zero_f one)) 0
    ∷ picks (triple (triple one one zero_f) (triple zero_f one zero_f) (triple zero_f zero_f one)) 1
    ∷ from_origin (negsuc 0) (pos 2)
    ∷ from_origin (pos 3) (pos 1)
    ∷ averages (pos 2) (pos 0 ∷ pos 0 ∷ []) (pos 0 ∷ pos 1 ∷ []) (values one two three five) (values two seven-halves two seven-halves)
    (pos 1 ∷ pos 0 ∷ pos 1 ∷ pos 1 ∷ []) (pos 1 ∷ pos 0 ∷ pos 1 ∷ pos 0 ∷ [])
    ∷ []
