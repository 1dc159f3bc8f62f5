-- What the answers yes to questions 3 to 6 say of the mesh numbers, of P and at each index. Assumes nothing.
use mathlib.Core.Path.{◌≡◌, ◌∙◌, sym}
use mathlib.Core.Bool.{true, ◌&&◌}
use mathlib.Core.List.{List}
use mathlib.Core.Logic.{⊎_elim}
use Prim.Native.Nat.{ℕ, zero, suc, ◌+◌, ◌-◌, ◌*◌, ◌/◌, ◌%◌, ◌<◌, ◌≤◌}
use native.Mathlib.Numerals.{add-one}
use native.Mathlib.Nat.{add-zero}
use native.Mathlib.Omega.{arith}
use borrow.Author.Tests.{leb-true, eqb-true, ltb-true, le-leb, lt-leb}
use lib.Dec.{leb, eqb, ltb}
use lib.IntN.{ℤ}
use lib.ListN.{length}
use lib.Signed.{non_neg, mag, lt_z}
use Rattle.list_laws.specs.Lists.{all_below, at}
use Rattle.list_laws.specs.Signed.{is_nat, is_between, within}
use Rattle.list_laws.proofs.BoolLaws.{and_left, and_right, lt-or-le}
use Rattle.list_laws.proofs.BelowLaws.{below_at}
use Rattle.list_laws.proofs.SignedLaws.{between-low, between-high, nat-is, nat-nonneg, rises}
use Rattle.numbers.specs.Mesh.{mesh_of, MeshWithin}
use Rattle.question_grids.specs.Grids.{is_mesh, are_triples, triples_in, are_addresses, is_place, is_sparse_map, is_dense_map}

-- p at most 8 n, said by a division
pub eighths : (p n : ℕ) → leb ((p + 7) / 8) n ≡ leb p (8 * n)
eighths p n =
    ⊎_elim
    (λ l. lt-leb ((p + 7) / 8) n (omega (arith, l)) ∙ sym (lt-leb p (8 * n) l))
    (λ l. le-leb ((p + 7) / 8) n (omega (arith, l)) ∙ sym (le-leb p (8 * n) l))
    (lt-or-le (8 * n) p)

pub mesh-within : (top : ℕ) (diag : List ℤ) → is_mesh top diag ≡ true → MeshWithin top (mesh_of diag)
unfolding is_mesh mesh_of
mesh-within top diag e =
    let e01 : _ = and_left (is_between 1 top (at diag 0) && is_between 1 top (at diag 1)) (is_between 1 top (at diag 2)) e in
    let e0 : _ = and_left (is_between 1 top (at diag 0)) (is_between 1 top (at diag 1)) e01 in
    let e1 : _ = and_right (is_between 1 top (at diag 0)) (is_between 1 top (at diag 1)) e01 in
    let e2 : _ = and_right (is_between 1 top (at diag 0) && is_between 1 top (at diag 1)) (is_between 1 top (at diag 2)) e in
    record {
      low0 = between-low 1 top (at diag 0) e0;
      low1 = between-low 1 top (at diag 1) e1;
      low2 = between-low 1 top (at diag 2) e2;
      high0 = between-high 1 top (at diag 0) e0;
      high1 = between-high 1 top (at diag 1) e1;
      high2 = between-high 1 top (at diag 2) e2;
    }

-- ---- triples

pub triples-at : (xs : List ℤ) → are_triples xs ≡ true → (k : ℕ) → k < length xs → within 4096 (at xs k) ≡ true
unfolding are_triples
triples-at xs e k h =
    below_at (length xs) (λ k. within 4096 (at xs k)) (and_right (eqb (length xs % 3) 0) (all_below (length xs) (λ k. within 4096 (at xs k))) e) k h

pub triples-whole : (xs : List ℤ) → are_triples xs ≡ true → length xs % 3 ≡ 0
unfolding are_triples
triples-whole xs e = eqb-true (length xs % 3) 0 (and_left (eqb (length xs % 3) 0) (all_below (length xs) (λ k. within 4096 (at xs k))) e)

module _ (n : ℕ) (xs : List ℤ) (e : are_addresses n xs ≡ true) where
  pub addresses-triples : are_triples xs ≡ true
  unfolding are_addresses
  addresses-triples = and_left (are_triples xs) (leb n (triples_in xs)) (and_left (are_triples xs && leb n (triples_in xs)) (leb (triples_in xs) (8 * n)) e)

  -- P is from N to 8N
  pub addresses-low : n ≤ triples_in xs
  unfolding are_addresses
  addresses-low =
      leb-true n (triples_in xs) (and_right (are_triples xs) (leb n (triples_in xs)) (and_left (are_triples xs && leb n (triples_in xs)) (leb (triples_in xs) (8 * n)) e))

  pub addresses-high : triples_in xs ≤ 8 * n
  unfolding are_addresses
  addresses-high = leb-true (triples_in xs) (8 * n) (and_right (are_triples xs && leb n (triples_in xs)) (leb (triples_in xs) (8 * n)) e)

-- ---- the map

module _ (n p : ℕ) (gp-map : List ℤ) (e : is_sparse_map n p gp-map ≡ true) where
  pub sparse-length : 8 * n ≤ length gp-map
  unfolding is_sparse_map
  sparse-length = leb-true (8 * n) (length gp-map) (and_left (leb (8 * n) (length gp-map)) (all_below (8 * n) (λ k. is_place p (8 * n) (at gp-map k))) e)

  pub sparse-at : (k : ℕ) → k < 8 * n → is_place p (8 * n) (at gp-map k) ≡ true
  unfolding is_sparse_map
  sparse-at k h =
      below_at (8 * n) (λ k. is_place p (8 * n) (at gp-map k)) (and_right (leb (8 * n) (length gp-map)) (all_below (8 * n) (λ k. is_place p (8 * n) (at gp-map k))) e) k h

module _ (n p : ℕ) (gp-map : List ℤ) (e : is_dense_map n p gp-map ≡ true) where
  pub dense-length : n < length gp-map
  unfolding is_dense_map
  dense-length = ltb-true n (length gp-map) (and_left (ltb n (length gp-map)) _ e)

  ends : (is_nat (at gp-map 0) 0 && is_nat (at gp-map n) p) ≡ true
  unfolding is_dense_map
  ends = and_left (is_nat (at gp-map 0) 0 && is_nat (at gp-map n) p) _ (and_right (ltb n (length gp-map)) _ e)

  up : (k : ℕ) → k < n → lt_z (at gp-map k) (at gp-map (k + 1)) ≡ true
  unfolding is_dense_map
  up k h =
      below_at n (λ k. lt_z (at gp-map k) (at gp-map (k + 1)))
      (and_right (is_nat (at gp-map 0) 0 && is_nat (at gp-map n) p) (all_below n (λ k. lt_z (at gp-map k) (at gp-map (k + 1)))) (and_right (ltb n (length gp-map)) _ e)) k h

  start : non_neg (at gp-map 0) ≡ true
  start = nat-nonneg (at gp-map 0) 0 (and_left (is_nat (at gp-map 0) 0) (is_nat (at gp-map n) p) ends)

  top : mag (at gp-map n) ≡ p
  top = nat-is (at gp-map n) p (and_right (is_nat (at gp-map 0) 0) (is_nat (at gp-map n) p) ends)

  natural : (k : ℕ) → k ≤ n → non_neg (at gp-map k) ≡ true
  natural zero h = start
  natural (suc k) h = rw (← add-one k) (rises (at gp-map k) (at gp-map (k + 1)) (natural k (omega arith)) (up k (omega arith))).0

  -- the map rises from each place to the next
  pub dense-step : (k : ℕ) → k < n → mag (at gp-map k) < mag (at gp-map (k + 1))
  dense-step k h = (rises (at gp-map k) (at gp-map (k + 1)) (natural k (omega arith)) (up k h)).1

  climb : (d k : ℕ) → k + d ≤ n → mag (at gp-map k) ≤ mag (at gp-map (k + d))
  climb zero k h = rw add-zero (omega arith)
  climb (suc d) k h =
      let s : k + suc d ≡ k + d + 1 = omega arith in
      rw s (omega (arith, climb d k (omega arith), dense-step (k + d) (omega arith)))

  -- and stays within P
  pub dense-top : (k : ℕ) → k ≤ n → mag (at gp-map k) ≤ p
  dense-top k h =
      let s : k + (n - k) ≡ n = omega arith in
      omega (arith, top, rw s at (climb (n - k) k (omega arith)))

-- by one name, for the attributes of functions
pub ruleset grid_laws = (mesh-within, triples-at, addresses-triples, addresses-low, addresses-high, sparse-length, sparse-at, dense-length, dense-step, dense-top)

pub ruleset mesh_laws = (mesh-within)
