-- The edges of the six ways, a place's components and all numbers of the tables, by the formulas of the code: tests that are computed over all of them. Assumes nothing.
use mathlib.Core.Path.{◌≡◌, refl}
use mathlib.Core.Bool.{Bool, true, false, not, cond, beq}
use mathlib.Core.List.{List, [], flatten}
use Prim.Native.Nat.{ℕ, ◌+◌, ◌-◌, ◌/◌, ◌%◌, ◌<◌}
use native.Mathlib.Omega.{arith}
use borrow.Author.Tests.{eqb-true, eq-eqb, ne_eqb}
use lib.Dec.{eqb, ltb}
use lib.IntN.{ℤ, pos, ◌-ℤ◌}
use lib.ListN.{get_or}
use lib.Signed.{mag, lt_z}
use mir.Syntax.{w64}
use mir.Val.{SFits, to_z, of_z}
use Rattle.list_laws.specs.Lists.{all_below, first_at, tabulate, rows, at}
use Rattle.list_laws.specs.Signed.{eq_z}
use Rattle.list_laws.proofs.BelowLaws.{below_at2, below_at3}
use Rattle.list_laws.proofs.EqualLaws.{equal_is}
use Rattle.list_laws.proofs.SignedLaws.{back}
use Rattle.tetrahedron_tables.specs.Tables.{flat}
use Rattle.relative_grid_address.specs.Diagonal.{main_diagonals}
use Rattle.cell_tetrahedra.specs.Ways.{plus, begin_of, edge, ways, place, tetrahedron}
use Rattle.cell_tetrahedra.specs.Rows.{minus, shifted, generated_table, generated_tables}
use Rattle.generated_tables.specs.Numbers.{edge_along, place_of, number_of}

-- ---- edges

-- the axes taken forwards or backwards from axis w / 2
abbrev turned : ℕ → ℕ → ℕ
turned w axis = cond (eqb (w % 2) 0) ((axis + 3 - w / 2) % 3) ((w / 2 + 3 - axis) % 3)

edges : all_below 6 (λ w. all_below 3 (λ axis. eqb (turned w axis) (edge_along (get_or ways w []) axis))) ≡ true
unfolding all_below edge_along first_at ways
edges = refl

edge_at : (w axis : ℕ) → w < 6 → axis < 3 → turned w axis ≡ edge_along (get_or ways w []) axis
edge_at w axis h g = eqb-true _ _ (below_at2 6 3 (λ w axis. eqb (turned w axis) (edge_along (get_or ways w []) axis)) edges w axis h g)

pub edge_forwards : (w axis : ℕ) → w < 6 → axis < 3 → w % 2 ≡ 0 → (axis + 3 - w / 2) % 3 ≡ edge_along (get_or ways w []) axis
edge_forwards w axis h g e = rw (eq-eqb (w % 2) 0 e) at (edge_at w axis h g)

pub edge_backwards : (w axis : ℕ) → w < 6 → axis < 3 → (w % 2 ≡ 0 → ⊥) → (w / 2 + 3 - axis) % 3 ≡ edge_along (get_or ways w []) axis
edge_backwards w axis h g n = rw (ne_eqb (w % 2) 0 n) at (edge_at w axis h g)

-- ---- places

-- 1 where a component has changed and did not begin with 1, and where it began with 1 and has not changed
abbrev bit : Bool → ℤ
bit b = cond b (pos 1) (pos 0)

abbrev is_one : ℕ → ℕ → ℕ → Bool
is_one t n k = not (beq (ltb (edge_along (get_or ways (t % 6) []) k) n) (lt_z (at (get_or main_diagonals (t / 6) []) k) (pos 0)))

places : all_below 24 (λ t. all_below 4 (λ n. all_below 3 (λ k. eq_z (bit (is_one t n k)) (place_of t n k)))) ≡ true
unfolding all_below edge_along first_at ways main_diagonals plus begin_of edge place place_of tabulate
places = refl

place_at : (t n k : ℕ) → t < 24 → n < 4 → k < 3 → bit (is_one t n k) ≡ place_of t n k
place_at t n k h g f = equal_is _ _ (below_at3 24 4 3 (λ t n k. eq_z (bit (is_one t n k)) (place_of t n k)) places t n k h g f)

-- as the code has it: e the edge along axis k, d the diagonal, its component k as the machine reads it back
pub place_is : (t n k : ℕ) → t < 24 → n < 4 → k < 3 → (e : ℕ) (d : List ℤ) (b : Bool) → e ≡ edge_along (get_or ways (t % 6) []) k
    → d ≡ get_or main_diagonals (t / 6) [] → mag (at d k) < 9223372036854775808
    → not (beq (ltb e n) (lt_z (to_z w64 (of_z w64 (at d k))) (pos 0))) ≡ b → bit b ≡ place_of t n k
place_is t n k h g f e d b p q m r = rw (← r, back (at d k) m, p, q) (place_at t n k h g f)

-- the difference of two components is -1, 0 or 1
bits_fit : (a b : Bool) → SFits w64 (bit a -ℤ bit b)
bits_fit true true = record { sfits = omega arith }
bits_fit true false = record { sfits = omega arith }
bits_fit false true = record { sfits = omega arith }
bits_fit false false = record { sfits = omega arith }

difference-fits : (t n m k : ℕ) → t < 24 → n < 4 → m < 4 → k < 3 → SFits w64 (place_of t n k -ℤ place_of t m k)
difference-fits t n m k h g l f = rw (← place_at t n k h g f, ← place_at t m k h l f) (bits_fit (is_one t n k) (is_one t m k))

pub number_fits : (i : ℕ) → i < 1152 → SFits w64 (number_of i)
unfolding number_of
number_fits i h = difference-fits (i / 48) ((i / 12 % 4 + i / 3 % 4) % 4) (i / 12 % 4) (i % 3) (omega arith) (omega arith) (omega arith) (omega arith)

-- ---- all numbers

pub numbers-are : tabulate 1152 number_of ≡ generated_tables
unfolding tabulate rows flat flatten main_diagonals ways plus begin_of edge place tetrahedron minus shifted generated_table generated_tables place_of number_of
numbers-are = refl
