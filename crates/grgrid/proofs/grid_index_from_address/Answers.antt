-- `grgrid::grid_index_from_address` meets its contract.
use Prim.Native.Nat.{◌<◌, ℕ}
use lib.IntN.{ℤ, pos}
use mathlib.Core.List.{List}
use mathlib.Core.Path.{◌≡◌, ap}
use mir.Syntax.{w64}
use mir.ValLaws.{to_z_pos}
use native.Mathlib.Omega.{arith}
use Rattle.numbers.proofs.MeshLaws.{count-le}
use Rattle.numbers.specs.declared.Address.{Address}
use Rattle.ask.specs.Ask.{first_no}
use Rattle.grgrid.proofs.IndexLaws.{index-lt}
use Rattle.grgrid.specs.Index.{address_of}
use Rattle.list_laws.specs.Lists.{at}
use Rattle.list_laws.proofs.BoolLaws.{yes_of}
use Rattle.question_grids.proofs.GridLaws.{mesh-within}
use Rattle.std.specs.declared.result.Result.TheVariants.{Ok}
use Rattle.grgrid.proofs.grid_index_from_address.Goals as goal

-- an address with the components of a list
same-address : (a : Address) (l : List ℤ) → (a.x ≡ at l 0) × ((a.y ≡ at l 1) × (a.z ≡ at l 2)) → a ≡ address_of l
unfolding address_of
same-address a l e = λ i. record { x = e.0 i; y = e.1.0 i; z = e.1.1 i }

pub overflow_cast-result : goal.overflow_cast-result
overflow_cast-result c =
    let w : _ = mesh-within 256 c.args.d_diag (yes_of c.mesh_ok.ensures c.if-not-mesh_ok.false) in
    let l : _ = index-lt w c.from.result in
    let e : _ = rw c.mesh_of-mesh.ensures at c.grid_index-index.ensures in
    omega (arith, l, e, count-le w)

pub returns : goal.returns
unfolding first_no
returns c =
    let w : _ = mesh-within 256 c.args.d_diag (yes_of c.mesh_ok.ensures c.if-not-mesh_ok.false) in
    let l : _ = index-lt w c.from.result in
    let e : _ = rw c.mesh_of-mesh.ensures at c.grid_index-index.ensures in
    let s : c.grid_index-index.result < 9223372036854775808 = omega (arith, l, e, count-le w) in
    rw (yes_of c.mesh_ok.ensures c.if-not-mesh_ok.false, to_z_pos w64 c.grid_index-index.result s)
    (ap (λ (n : ℕ). Ok (pos n)) (rw (c.mesh_of-mesh.ensures, same-address c.from.result c.args.address c.from.ensures) at c.grid_index-index.ensures))
