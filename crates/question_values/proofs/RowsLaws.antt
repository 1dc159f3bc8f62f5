-- What the count of rows says of the length of a flat list. Assumes nothing.
use mathlib.Core.Path.{◌≡◌, refl}
use mathlib.Core.Bool.{Bool, true, false, ◌||◌}
use Prim.Native.Nat.{ℕ, ◌*◌, ◌/◌, ◌≤◌}
use native.Mathlib.Omega.{arith}
use lib.Dec.{eqb}
use borrow.Author.Tests.{eqb-true}
use Rattle.list_laws.proofs.BoolLaws.{clash}
use Rattle.question_values.specs.Rows.{has_rows}

-- a list with a number of rows: the number, at most 96, times the size
pub rows_in_lem : (size n : ℕ) → has_rows size n ≡ true → (rows : ℕ) × ((rows ≤ 96) × (n ≡ rows * size))
rows_in_lem size n e = go (eqb n (24 * size)) refl (eqb n (48 * size)) refl (eqb n (72 * size)) refl (eqb n (96 * size)) refl e
  where
    go : (a : Bool) → eqb n (24 * size) ≡ a → (b : Bool) → eqb n (48 * size) ≡ b → (c : Bool) → eqb n (72 * size) ≡ c → (d : Bool) → eqb n (96 * size) ≡ d
        → ((a || b) || (c || d)) ≡ true → (rows : ℕ) × ((rows ≤ 96) × (n ≡ rows * size))
    go true h b i c j d k e = (24, (omega arith, eqb-true n (24 * size) h))
    go false h true i c j d k e = (48, (omega arith, eqb-true n (48 * size) i))
    go false h false i true j d k e = (72, (omega arith, eqb-true n (72 * size) j))
    go false h false i false j true k e = (96, (omega arith, eqb-true n (96 * size) k))
    go false h false i false j false k e = clash e

-- a table has 24, 48, 72 or 96 rows of twelve numbers
pub table-rows : (n : ℕ) → has_rows 12 n ≡ true → (1 ≤ n / 12) × ((n / 12 ≤ 96) × (n ≡ n / 12 * 12))
table-rows n e = go (eqb n 288) refl (eqb n 576) refl (eqb n 864) refl (eqb n 1152) refl e
  where
    go : (a : Bool) → eqb n 288 ≡ a → (b : Bool) → eqb n 576 ≡ b → (c : Bool) → eqb n 864 ≡ c → (d : Bool) → eqb n 1152 ≡ d
        → ((a || b) || (c || d)) ≡ true → (1 ≤ n / 12) × ((n / 12 ≤ 96) × (n ≡ n / 12 * 12))
    go true h b i c j d k e = let q : n ≡ 288 = eqb-true n 288 h in (omega arith, (omega arith, omega arith))
    go false h true i c j d k e = let q : n ≡ 576 = eqb-true n 576 i in (omega arith, (omega arith, omega arith))
    go false h false i true j d k e = let q : n ≡ 864 = eqb-true n 864 j in (omega arith, (omega arith, omega arith))
    go false h false i false j true k e = let q : n ≡ 1152 = eqb-true n 1152 k in (omega arith, (omega arith, omega arith))
    go false h false i false j false k e = clash e
