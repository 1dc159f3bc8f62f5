-- `triplet_addresses::normal::is_normal` meets its contract.
use Prim.Native.Nat.{ℕ, ◌*◌, ◌+◌, ◌<◌}
use lib.ListN.{length}
use lib.Signed.{mag}
use mathlib.Core.Path.{◌≡◌}
use mir.Syntax.{w64}
use mir.Val.{SFits}
use mir.ValLaws.{to_z-of_z}
use native.Mathlib.Omega.{arith}
use Rattle.std.proofs.Common.{rules}
use Rattle.list_laws.proofs.SignedLaws.{back}
use Rattle.list_laws.specs.Lists.{at}
use Rattle.question_grids.specs.Grids.{triples_in}
use Rattle.triplet_addresses.proofs.SumLaws.{first-lt, second_lt, third-lt}
use Rattle.triplet_addresses.specs.Normal.{is_normal}
use Rattle.triplet_addresses.proofs.normal.is_normal.Goals.{After-magnitude-c}
use Rattle.triplet_addresses.proofs.normal.is_normal.Goals as goal

-- the points that the numbers of the triplet name
named : (c : After-magnitude-c) → (c.magnitude-a.result ≡ mag (at c.args.triplet 0)) × (c.magnitude-b.result ≡ mag (at c.args.triplet 1)) × (c.magnitude-c.result ≡ mag (at c.args.triplet 2))
named c =
    let f0 : SFits w64 (at c.args.triplet 0) = search rules in
    let f1 : SFits w64 (at c.args.triplet 1) = search rules in
    let f2 : SFits w64 (at c.args.triplet 2) = search rules in
    (rw (to_z-of_z w64 _ f0) at c.magnitude-a.ensures, rw (to_z-of_z w64 _ f1) at c.magnitude-b.ensures, rw (to_z-of_z w64 _ f2) at c.magnitude-c.ensures)

-- the three numbers of each are in the list
listed : (c : After-magnitude-c) → let n = length c.args.addresses.numbers.now in (3 * c.magnitude-a.result + 2 < n) × (3 * c.magnitude-b.result + 2 < n) × (3 * c.magnitude-c.result + 2 < n)
listed c =
    let p : ℕ = triples_in c.args.addresses.numbers.now in
    (omega (arith, (named c).0, first-lt p c.args.triplet c.requires), omega (arith, (named c).1, second_lt p c.args.triplet c.requires), omega (arith, (named c).2, third-lt p c.args.triplet c.requires))

pub component_sum-requires : goal.component_sum-requires
component_sum-requires c =
    let n = listed (goal.at.component_sum-requires c).After-magnitude-c in
    (omega (arith, n.0), (omega (arith, n.1), omega (arith, n.2)))

pub component_sum-requires-2 : goal.component_sum-requires-2
component_sum-requires-2 c =
    let n = listed (goal.at.component_sum-requires-2 c).After-magnitude-c in
    (omega (arith, n.0), (omega (arith, n.1), omega (arith, n.2)))

pub component_sum-requires-3 : goal.component_sum-requires-3
component_sum-requires-3 c =
    let n = listed (goal.at.component_sum-requires-3 c).After-magnitude-c in
    (omega (arith, n.0), (omega (arith, n.1), omega (arith, n.2)))

pub returns : goal.returns
unfolding is_normal
returns c =
    let at = (goal.at.returns c).After-magnitude-c in
    rw (
      c.is_nat.ensures,
      c.is_nat-2.ensures,
      c.is_nat-3.ensures,
      back c.component_sum.result c.component_sum.type_inv,
      back c.component_sum-2.result c.component_sum-2.type_inv,
      back c.component_sum-3.result c.component_sum-3.type_inv,
      c.component_sum.ensures,
      c.component_sum-2.ensures,
      c.component_sum-3.ensures,
      (named at).0,
      (named at).1,
      (named at).2,
    )
