-- The six ways are all there are, each goes from one end of its diagonal to the other over vertices of the cell, and the rows that they give keep the rule of the tables: tests that are computed. Assumes nothing.
use mathlib.Core.Path.{◌≡◌, refl}
use mathlib.Core.Bool.{true}
use mathlib.Core.List.{[]}
use Prim.Native.Nat.{ℕ, ◌<◌}
use lib.Dec.{eqb}
use lib.ListN.{length, get_or}
use borrow.Author.Tests.{eqb-true}
use Rattle.list_laws.specs.Lists.{all_below, count_below, one_if, tabulate, rows}
use Rattle.list_laws.specs.Signed.{is_below, eq_zs}
use Rattle.list_laws.proofs.BelowLaws.{below_at2, below_at3}
use Rattle.list_laws.proofs.EqualLaws.{equals-are}
use Rattle.relative_grid_address.specs.Diagonal.{main_diagonals}
use Rattle.tetrahedron_tables.specs.Tables.{det, row_ok}
use Rattle.cell_tetrahedra.specs.Ways.{plus, begin_of, end_of, edge, ways, place, tetrahedron, are_different, goes_along, is_vertex}
use Rattle.cell_tetrahedra.specs.Rows.{minus, shifted, generated_table, generated_table_of}

-- ---- the ways

all_ways : all_below 3 (λ a. all_below 3 (λ b. all_below 3 (λ c. eqb (count_below 6 (λ w. goes_along w a b c)) (one_if (are_different a b c))))) ≡ true
unfolding all_below count_below ways
all_ways = refl

-- of the ways one goes along three axes that are different, in their order, and none along others
pub ways-all : (a b c : ℕ) → a < 3 → b < 3 → c < 3 → count_below 6 (λ w. goes_along w a b c) ≡ one_if (are_different a b c)
ways-all a b c h g f =
    eqb-true _ _ (below_at3 3 3 3 (λ a b c. eqb (count_below 6 (λ w. goes_along w a b c)) (one_if (are_different a b c))) all_ways a b c h g f)

pub ways-six : length ways ≡ 6
unfolding ways
ways-six = refl

-- ---- the places

all_end : all_below 4 (λ t. all_below 6 (λ w. eq_zs (place (get_or main_diagonals t []) (get_or ways w []) 3) (end_of (get_or main_diagonals t [])))) ≡ true
unfolding all_below eq_zs tabulate main_diagonals plus begin_of end_of edge ways place
all_end = refl

-- each way begins at one end of its diagonal, by definition, and ends at the other
pub ends_there : (t w : ℕ) → t < 4 → w < 6 → place (get_or main_diagonals t []) (get_or ways w []) 3 ≡ end_of (get_or main_diagonals t [])
ends_there t w h g =
    equals-are _ _ (below_at2 4 6 (λ t w. eq_zs (place (get_or main_diagonals t []) (get_or ways w []) 3) (end_of (get_or main_diagonals t []))) all_end t w h g)

all-vertices : all_below 4 (λ t. all_below 6 (λ w. all_below 4 (λ n. is_vertex (place (get_or main_diagonals t []) (get_or ways w []) n)))) ≡ true
unfolding all_below is_below tabulate main_diagonals plus begin_of edge ways place is_vertex
all-vertices = refl

-- each place that is passed is a vertex of the cell
pub on-vertices : (t w n : ℕ) → t < 4 → w < 6 → n < 4 → is_vertex (place (get_or main_diagonals t []) (get_or ways w []) n) ≡ true
on-vertices = below_at3 4 6 4 (λ t w n. is_vertex (place (get_or main_diagonals t []) (get_or ways w []) n)) all-vertices

-- ---- the rows

all-rows : all_below 4 (λ t. all_below 24 (λ r. row_ok (get_or (generated_table_of t) r []))) ≡ true
unfolding all_below tabulate rows det row_ok main_diagonals plus begin_of edge ways place tetrahedron minus shifted generated_table
all-rows = refl

-- the rule of the tables: corner 0 is 0, 0, 0 and the other three span determinant 1 or -1
pub generated-rule : (t r : ℕ) → t < 4 → r < 24 → row_ok (get_or (generated_table_of t) r []) ≡ true
generated-rule = below_at2 4 24 (λ t r. row_ok (get_or (generated_table_of t) r [])) all-rows
