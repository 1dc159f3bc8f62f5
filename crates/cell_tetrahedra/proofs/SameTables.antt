-- The rows that a main diagonal gives and those of its constant table are the same collection: one test, computed over the four diagonals. Assumes nothing.
use mathlib.Core.Path.{◌≡◌, refl, sym, ◌∙◌}
use mathlib.Core.Bool.{Bool, true, ◌&&◌}
use mathlib.Core.List.{List, []}
use Prim.Native.Nat.{ℕ, ◌<◌}
use lib.Dec.{eqb, ltb}
use lib.IntN.{ℤ}
use lib.ListN.{length, get_or}
use borrow.Author.Tests.{eqb-true, ltb-true}
use Rattle.list_laws.specs.Lists.{all_below, some_below, count_below, tabulate, rows}
use Rattle.list_laws.specs.Matching.{AllDifferent, is_one_to_one, are_matched, are_same_set}
use Rattle.list_laws.specs.Signed.{eq_zs}
use Rattle.list_laws.proofs.BelowLaws.{below_at}
use Rattle.list_laws.proofs.BoolLaws.{and_left, and_right}
use Rattle.list_laws.proofs.EqualLaws.{equals-are, are-equals}
use Rattle.list_laws.proofs.MatchingLaws.{matched, same_set, are-same-set, itself-different, set-matched}
use Rattle.relative_grid_address.specs.Diagonal.{main_diagonals}
use Rattle.tetrahedron_tables.specs.Tables.{table0, table1, table2, table3, table_of}
use Rattle.cell_tetrahedra.specs.Ways.{plus, begin_of, edge, ways, place, tetrahedron}
use Rattle.cell_tetrahedra.specs.Rows.{minus, shifted, generated_table, generated_table_of, origin, constant_table, SameCorners, SameCollection, Reordered}

-- ---- the same collection

abbrev same_corners : List (List ℤ) → List (List ℤ) → Bool
same_corners = are_same_set [] eq_zs

abbrev same_collection : List (List (List ℤ)) → List (List (List ℤ)) → Bool
same_collection = are_matched [] same_corners

-- the test, computed
tables-match : all_below 4 (λ t. same_collection (generated_table_of t) (constant_table t)) ≡ true
unfolding all_below some_below count_below is_one_to_one are_same_set eq_zs tabulate rows main_diagonals table0 table1 table2 table3 table_of plus begin_of edge ways place tetrahedron minus shifted generated_table
tables-match = refl

-- for each diagonal each generated row equals exactly one row of the constant table, as a set of corners, and each constant row exactly one generated row
pub same-collection : (t : ℕ) → t < 4 → SameCollection (generated_table_of t) (constant_table t)
same-collection t h =
    matched [] same_corners SameCorners (same_set [] eq_zs equals-are are-equals) (are-same-set [] eq_zs equals-are are-equals) (generated_table_of t) (constant_table t)
    (below_at 4 (λ t. same_collection (generated_table_of t) (constant_table t)) tables-match t h)

-- ---- 24 rows, and in each corner 0 at zero and no corner twice

abbrev is_row : List (List ℤ) → Bool
is_row r = (ltb 0 (length r) && eq_zs (get_or r 0 []) origin) && are_matched [] eq_zs r r

abbrev are_rows : List (List (List ℤ)) → Bool
are_rows table = eqb (length table) 24 && all_below 24 (λ i. is_row (get_or table i []))

-- the test, computed
tables-have-rows : all_below 4 (λ t. are_rows (generated_table_of t) && are_rows (constant_table t)) ≡ true
unfolding all_below count_below is_one_to_one eq_zs tabulate rows main_diagonals table0 table1 table2 table3 table_of plus begin_of edge ways place tetrahedron minus shifted generated_table
tables-have-rows = refl

-- what it says of a table
module _ (table : List (List (List ℤ))) (are : are_rows table ≡ true) where
  has-24 : length table ≡ 24
  has-24 = eqb-true _ 24 (and_left _ (all_below 24 (λ i. is_row (get_or table i []))) are)

  module _ (i : ℕ) (h : i < 24) where
    is-row : is_row (get_or table i []) ≡ true
    is-row = below_at 24 (λ i. is_row (get_or table i [])) (and_right (eqb (length table) 24) _ are) i h

    starts : (ltb 0 (length (get_or table i [])) && eq_zs (get_or (get_or table i []) 0 []) origin) ≡ true
    starts = and_left _ (are_matched [] eq_zs (get_or table i []) (get_or table i [])) is-row

    has-corner : 0 < length (get_or table i [])
    has-corner = ltb-true 0 _ (and_left _ (eq_zs (get_or (get_or table i []) 0 []) origin) starts)

    at_zero : get_or (get_or table i []) 0 [] ≡ origin
    at_zero = equals-are _ origin (and_right (ltb 0 (length (get_or table i []))) _ starts)

    different : AllDifferent [] (get_or table i [])
    different =
        itself-different [] (get_or table i [])
        (matched [] eq_zs (λ a b. a ≡ b) equals-are are-equals (get_or table i []) (get_or table i [])
        (and_right (ltb 0 (length (get_or table i [])) && eq_zs (get_or (get_or table i []) 0 []) origin) _ is-row))

module _ (t : ℕ) (h : t < 4) where
  both : (are_rows (generated_table_of t) && are_rows (constant_table t)) ≡ true
  both = below_at 4 (λ t. are_rows (generated_table_of t) && are_rows (constant_table t)) tables-have-rows t h

  generated-are : are_rows (generated_table_of t) ≡ true
  generated-are = and_left _ (are_rows (constant_table t)) both

  constant-are : are_rows (constant_table t) ≡ true
  constant-are = and_right (are_rows (generated_table_of t)) _ both

  pub generated-rows : length (generated_table_of t) ≡ 24
  generated-rows = has-24 (generated_table_of t) generated-are

  pub constant-rows : length (constant_table t) ≡ 24
  constant-rows = has-24 (constant_table t) constant-are

  pub generated-zero : (i : ℕ) → i < 24 → get_or (get_or (generated_table_of t) i []) 0 [] ≡ origin
  generated-zero = at_zero (generated_table_of t) generated-are

  pub constant-zero : (j : ℕ) → j < 24 → get_or (get_or (constant_table t) j []) 0 [] ≡ origin
  constant-zero = at_zero (constant_table t) constant-are

  module _ (i j : ℕ) (g : i < 24) (f : j < 24) where
    -- two rows that are equal as sets have the same corners in some order
    pub same-reordered : SameCorners (get_or (generated_table_of t) i []) (get_or (constant_table t) j [])
        → Reordered (get_or (generated_table_of t) i []) (get_or (constant_table t) j [])
    same-reordered =
        set-matched [] (get_or (generated_table_of t) i []) (get_or (constant_table t) j [])
        (different (generated_table_of t) generated-are i g) (different (constant_table t) constant-are j f)

    -- and corner 0 stays corner 0, so that only corners 1 to 3 change places
    pub zero-stays : (same : Reordered (get_or (generated_table_of t) i []) (get_or (constant_table t) j []))
        → (k : 0 < length (get_or (generated_table_of t) i [])) → (same.forth 0 k).which ≡ 0
    zero-stays same k =
        sym ((same.forth 0 k).only 0 (has-corner (constant_table t) constant-are j f) (generated-zero i g ∙ sym (constant-zero j f)))
