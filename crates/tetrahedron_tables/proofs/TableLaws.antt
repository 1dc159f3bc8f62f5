-- The rule of the tables: corner 0 of each row is 0, 0, 0 and the other three span determinant 1 or -1. It is one test that is computed over all rows. And a table as rows of twelve numbers and as one flat list. Assumes nothing.
use mathlib.Core.Path.{◌≡◌, refl}
use mathlib.Core.Bool.{true}
use mathlib.Core.List.{List, [], ◌∷◌, flatten}
use Prim.Native.Nat.{ℕ, zero, suc, ◌<◌, ◌/◌, ◌%◌}
use native.Mathlib.Omega.{arith}
use lib.IntN.{ℤ, pos}
use lib.ListN.{get_or}
use Rattle.std.specs.List.{flat_map}
use Rattle.list_laws.specs.Lists.{all_below, tabulate, rows as tables}
use Rattle.list_laws.specs.Signed.{eq_z}
use Rattle.list_laws.proofs.BelowLaws.{below_at, below_at2}
use Rattle.list_laws.proofs.EqualLaws.{equal_is}
use Rattle.tetrahedron_tables.specs.Tables.{table0, table1, table2, table3, table_of, entry, flat, row_ok, det}

-- the test, of each table
rows : (t : ℕ) → all_below 24 (λ r. row_ok (get_or (table_of t) r [])) ≡ true
unfolding table_of table0 table1 table2 table3 row_ok det all_below
rows zero = refl
rows (suc zero) = refl
rows (suc (suc zero)) = refl
rows (suc (suc (suc t))) = refl

-- the rule, at each row of each table
pub rule : (t r : ℕ) → r < 24 → row_ok (get_or (table_of t) r []) ≡ true
rule t r h = below_at 24 (λ r. row_ok (get_or (table_of t) r [])) (rows t) r h

-- a table with its rows as lists of twelve numbers
unfoldable pub twelves : List (List (List ℤ)) → List (List ℤ)
unfolding flatten
twelves [] = []
twelves (r ∷ t) = flatten r ∷ twelves t

-- the test, of each table: place 3c + k of a row of twelve is component k of corner c
places : (t : ℕ) → all_below 24 (λ r. all_below 12 (λ j. eq_z (get_or (get_or (twelves (table_of t)) r []) j (pos 0)) (entry (table_of t) r j))) ≡ true
unfolding table_of table0 table1 table2 table3 twelves flatten all_below
places zero = refl
places (suc zero) = refl
places (suc (suc zero)) = refl
places (suc (suc (suc t))) = refl

-- the same, at each place
pub place : (t r j : ℕ) → r < 24 → j < 12 → get_or (get_or (twelves (table_of t)) r []) j (pos 0) ≡ entry (table_of t) r j
place t r j h g =
    equal_is _ _ (below_at2 24 12 (λ r j. eq_z (get_or (get_or (twelves (table_of t)) r []) j (pos 0)) (entry (table_of t) r j)) (places t) r j h g)

-- the flat list, entry by entry
pub flat-is : (t : ℕ) → tabulate 288 (λ i. entry (table_of t) (i / 12) (i % 12)) ≡ flat (table_of t)
unfolding table_of table0 table1 table2 table3 flat flatten tabulate
flat-is zero = refl
flat-is (suc zero) = refl
flat-is (suc (suc zero)) = refl
flat-is (suc (suc (suc t))) = refl

-- the four tables in rows of twelve
abbrev pub all_twelves : List (List (List ℤ))
all_twelves = twelves (table_of 0) ∷ twelves (table_of 1) ∷ twelves (table_of 2) ∷ twelves (table_of 3) ∷ []

-- a table's rows of twelve one after the other are its flat list
pub flat-at : (t : ℕ) → t < 4 → flat_map (λ r. r) (get_or all_twelves t []) ≡ flat (table_of t)
unfolding table_of table0 table1 table2 table3 twelves flat flatten
flat-at zero h = refl
flat-at (suc zero) h = refl
flat-at (suc (suc zero)) h = refl
flat-at (suc (suc (suc zero))) h = refl
flat-at (suc (suc (suc (suc t)))) h = absurd (omega arith)

-- and so are all rows those of the four
pub flat-all : flat_map (λ r. r) (flat_map (λ t. t) all_twelves) ≡ tables 4 (λ i. flat (table_of i))
unfolding table_of table0 table1 table2 table3 twelves flat flatten tables
flat-all = refl
