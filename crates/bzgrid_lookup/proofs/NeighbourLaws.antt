-- Every neighbour of a sound grid is the number of one of its addresses. Assumes nothing.
use mathlib.Core.Path.{◌≡◌}
use mathlib.Core.Bool.{true}
use mathlib.Core.List.{List}
use Prim.Native.Nat.{ℕ, ◌+◌, ◌-◌, ◌*◌, ◌<◌, ◌≤◌}
use native.Mathlib.Omega.{arith}
use lib.Dec.{ltb, eqb}
use lib.IntN.{ℤ}
use lib.Signed.{mag}
use Rattle.list_laws.specs.Lists.{at, first_at}
use Rattle.list_laws.proofs.BoolLaws.{cond-lt}
use Rattle.list_laws.proofs.FirstLaws.{first-lt}
use Rattle.list_laws.proofs.SignedLaws.{below-or-nat}
use Rattle.numbers.specs.declared.Address.{Address}
use Rattle.numbers.specs.declared.Mesh.{Mesh}
use Rattle.numbers.specs.Mesh.{count_of, doubled_mesh, MeshWithin}
use Rattle.numbers.proofs.MeshLaws.{doubled, count-le, count-doubled}
use Rattle.grgrid.specs.Index.{grid_index}
use Rattle.grgrid.proofs.IndexLaws.{index-lt}
use Rattle.question_grids.specs.Grids.{triples_in, is_place, is_sparse_map, is_dense_map}
use Rattle.question_grids.proofs.GridLaws.{addresses-low, addresses-high, sparse-at, dense-step, dense-top}
use Rattle.bzgrid_lookup.specs.declared.GridKind.{GridKind}
use Rattle.bzgrid_lookup.specs.declared.GridKind.TheVariants.{Sparse, Dense}
use Rattle.bzgrid_lookup.specs.declared.BzGrid.{BzGrid}
use Rattle.bzgrid_lookup.specs.Neighbours.{is_address, map_on_doubled, sparse_neighbour, in_group, dense_neighbour, by_kind, neighbour_of, map_fits, SoundGrid}

-- an index on the doubled mesh is below 8N
pub doubled-below : {m : Mesh} → MeshWithin 128 m → (w : Address) → grid_index w (doubled_mesh m) < 8 * count_of m
doubled-below {m} h w = omega (arith, index-lt (doubled h) w, count-doubled m)

module _ (m : Mesh) (h : MeshWithin 128 m) (addresses gp-map : List ℤ) (low : count_of m ≤ triples_in addresses) (w : Address) where
  sparse-lt : is_sparse_map (count_of m) (triples_in addresses) gp-map ≡ true → sparse_neighbour m gp-map w < triples_in addresses
  unfolding sparse_neighbour map_on_doubled is_place
  sparse-lt q =
      let g : ℕ = grid_index w (doubled_mesh m) in
      cond-lt (eqb (mag (at gp-map g)) (8 * count_of m)) (grid_index w m) (mag (at gp-map g)) (triples_in addresses)
      (λ e. omega (arith, index-lt h w))
      (λ e. below-or-nat (at gp-map g) (triples_in addresses) (8 * count_of m) (sparse-at (count_of m) (triples_in addresses) gp-map q g (doubled-below h w)) e)

  dense-lt : is_dense_map (count_of m) (triples_in addresses) gp-map ≡ true → dense_neighbour m addresses gp-map w < triples_in addresses
  unfolding dense_neighbour in_group
  dense-lt q =
      let n : ℕ = count_of m in
      let p : ℕ = triples_in addresses in
      let g : ℕ = grid_index w m in
      let b : g < n = index-lt h w in
      let lo : ℕ = mag (at gp-map g) in
      let hi : ℕ = mag (at gp-map (g + 1)) in
      let s : lo < hi = dense-step n p gp-map q g b in
      let t : hi ≤ p = dense-top n p gp-map q (g + 1) (omega arith) in
      cond-lt (ltb 1 (hi - lo)) (first_at (is_address addresses w) lo (hi - lo) lo) lo p
      (λ e. first-lt (is_address addresses w) lo (hi - lo) lo p (omega arith) (omega arith))
      (λ e. omega arith)

by-kind : (k : GridKind) (m : Mesh) (addresses gp-map : List ℤ) → MeshWithin 128 m → count_of m ≤ triples_in addresses
    → map_fits k (count_of m) (triples_in addresses) gp-map ≡ true → (w : Address)
    → by_kind k (sparse_neighbour m gp-map w) (dense_neighbour m addresses gp-map w) < triples_in addresses
by-kind Sparse m addresses gp-map h low q w = sparse-lt m h addresses gp-map low w q
by-kind Dense m addresses gp-map h low q w = dense-lt m h addresses gp-map low w q

module _ (grid : BzGrid) (addresses gp-map : List ℤ) (s : SoundGrid grid addresses gp-map) where
  pub neighbour-lt : (w : Address) → neighbour_of grid addresses gp-map w < triples_in addresses
  unfolding neighbour_of
  neighbour-lt w = by-kind grid.kind grid.mesh addresses gp-map s.mesh (addresses-low (count_of grid.mesh) addresses s.addressed) s.mapped w

  -- P is at most 8 * 128 * 128 * 128
  pub addresses-small : triples_in addresses ≤ 16777216
  addresses-small = omega (arith, addresses-high (count_of grid.mesh) addresses s.addressed, count-le s.mesh)

-- by one name, for the attributes of functions
pub ruleset neighbour_laws = (doubled-below, neighbour-lt, addresses-small)
