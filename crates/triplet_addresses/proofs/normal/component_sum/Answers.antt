-- `triplet_addresses::normal::component_sum` meets its contract.
use Prim.Native.Nat.{◌*◌, ◌+◌}
use lib.IntN.{ℤ, ◌+ℤ◌}
use mathlib.Core.Bool.{true}
use mathlib.Core.Path.{◌≡◌}
use mir.Syntax.{w64}
use mir.Val.{SFits}
use mir.ValLaws.{to_z-of_z}
use Rattle.list_laws.proofs.SignedLaws.{back}
use Rattle.list_laws.specs.Lists.{at}
use Rattle.list_laws.specs.Signed.{within}
use Rattle.question_grids.proofs.GridLaws.{triples-at}
use Rattle.triplet_addresses.proofs.SumLaws.{three-fit, two-fit}
use Rattle.triplet_addresses.specs.Normal.{component_sum}
use Rattle.triplet_addresses.proofs.normal.component_sum.Goals.{Start}
use Rattle.triplet_addresses.proofs.normal.component_sum.Goals as goal

-- the numbers that are added
abbrev one : Start → ℤ
one s = at s.args.addresses.numbers.now (3 * s.args.a + s.args.i)

abbrev two : Start → ℤ
two s = at s.args.addresses.numbers.now (3 * s.args.b + s.args.i)

abbrev three : Start → ℤ
three s = at s.args.addresses.numbers.now (3 * s.args.c + s.args.i)

-- each is within 4096
small : (s : Start) → (within 4096 (one s) ≡ true) × (within 4096 (two s) ≡ true) × (within 4096 (three s) ≡ true)
small s =
    let numbers = s.args.addresses.numbers.now in
    let tested = s.args.addresses.tested in
    (triples-at numbers tested (3 * s.args.a + s.args.i) s.requires.0, triples-at numbers tested (3 * s.args.b + s.args.i) s.requires.1.0, triples-at numbers tested (3 * s.args.c + s.args.i) s.requires.1.1)

-- two of them, and all three, add up to a number of 64 bits
two-sum : (s : Start) → SFits w64 (one s +ℤ two s)
two-sum s = two-fit (one s) (two s) (small s).0 (small s).1

all-sum : (s : Start) → SFits w64 (component_sum s.args.addresses.numbers.now s.args.a s.args.b s.args.c s.args.i)
unfolding component_sum
all-sum s = three-fit (one s) (two s) (three s) (small s).0 (small s).1 (small s).2

pub overflow_add-result-3 : goal.overflow_add-result-3
overflow_add-result-3 c =
    let s : Start = (goal.at.overflow_add-result-3 c).Start in
    rw (back (one s) c.result-1.given, back (two s) c.result-2-1.given) (two-sum s)

pub overflow_add-result-5 : goal.overflow_add-result-5
unfolding component_sum
overflow_add-result-5 c =
    let s : Start = (goal.at.overflow_add-result-5 c).Start in
    rw (back (one s) c.result-1.given, back (two s) c.result-2-1.given, back (three s) c.result-3-1.given, to_z-of_z w64 (one s +ℤ two s) (two-sum s)) (all-sum s)

pub returns : goal.returns
unfolding component_sum
returns c =
    let s : Start = (goal.at.returns c).Start in
    rw (back (one s) c.result-1.given, back (two s) c.result-2-1.given, back (three s) c.result-3-1.given, to_z-of_z w64 (one s +ℤ two s) (two-sum s), to_z-of_z w64 (component_sum c.args.addresses.numbers.now c.args.a c.args.b c.args.c c.args.i) (all-sum s))
