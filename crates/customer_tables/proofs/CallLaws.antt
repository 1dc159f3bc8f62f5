-- The questions of a checked call in their groups. Assumes nothing.
use mathlib.Core.Path.{◌≡◌, ◌∙◌, sym}
use mathlib.Core.List.{List, ◌++◌}
use Prim.Native.Nat.{ℕ}
use native.Mathlib.Omega.{arith}
use lib.Ieee.{Float}
use lib.IntN.{ℤ}
use lib.ListN.{length}
use Rattle.std.proofs.Common.{Err}
use Rattle.ask.specs.declared.refusal.Refusal.{Refusal}
use Rattle.ask.specs.Ask.{first_no, AllYes, Numbered}
use Rattle.ask.specs.Refusals.{answer_of}
use Rattle.ask.proofs.AskLaws.{all_yes, none-no, group-yes, group-no, after-done}
use Rattle.ask.proofs.RefusalLaws.{refused-is, refused-not}
use Rattle.bzgrid_lookup.proofs.CallLaws.{grid-numbered}
use Rattle.question_grids.specs.Grids.{grid_questions}
use Rattle.grid_point_weights.specs.Weights.{weights_of_all}
use Rattle.grid_point_weights.specs.Calls.{GridPointCall, study_of, rest_asked, grid_point_questions, weighed}
use Rattle.table_rules.specs.Questions.{table_questions}
use Rattle.customer_tables.specs.Calls.{checked_questions, checked_no, checked_weighed}

table-numbered : (table : List ℤ) → Numbered (table_questions table)
table-numbered table = (omega arith, (omega arith, (omega arith, (omega arith, tt))))

module _ (g : GridPointCall) (iw : ℕ) where
  -- where the grid's questions are answered yes, those of the table and the rest are left
  module _ (grid : first_no (grid_questions g.kind g.diag g.addresses g.gp-map) ≡ 0) where
    table-left : first_no (checked_questions g iw) ≡ first_no (table_questions g.table ++ rest_asked g iw)
    table-left = group-yes (grid_questions g.kind g.diag g.addresses g.gp-map) (table_questions g.table ++ rest_asked g iw) (grid-numbered g.kind g.diag g.addresses g.gp-map) grid

    -- a table that is refused
    pub table-refused : {A B : Type 0} (why : Refusal) (given : A) (other : B) → Err why ≡ answer_of (first_no (table_questions g.table)) given
        → Err why ≡ answer_of (first_no (checked_questions g iw)) other
    table-refused why given other e =
        refused-is _ _ why given other e (table-left ∙ group-no (table_questions g.table) (rest_asked g iw) (refused-not _ why given e))

    -- a table that is accepted
    pub rest-left : first_no (table_questions g.table) ≡ 0 → first_no (checked_questions g iw) ≡ first_no (rest_asked g iw)
    rest-left e = table-left ∙ group-yes (table_questions g.table) (rest_asked g iw) (table-numbered g.table) e

  -- where all are answered yes, so are those of the grid-point call
  pub checked-none : first_no (checked_questions g iw) ≡ 0 → first_no (grid_point_questions g iw) ≡ 0
  checked-none z =
      let numbered : Numbered (checked_questions g iw) =
      (omega arith, (omega arith, (omega arith, (omega arith, (omega arith, (omega arith, (omega arith, (omega arith, (omega arith, (omega arith, (omega arith, (omega arith, tt)))))))))))) in
      let y : AllYes (checked_questions g iw) = all_yes (checked_questions g iw) numbered z in
      none-no (grid_point_questions g iw) (y.0, (y.1.0, (y.1.1.0, (y.1.1.1.0, (y.1.1.1.1.0, y.1.1.1.1.1.1.1.1)))))

-- a checked call that is accepted leaves what the grid-point call leaves
pub same-weights : (g : GridPointCall) (old : List Float) → checked_no g old ≡ 0 → checked_weighed g old ≡ weighed g old
same-weights g old z =
    sym (after-done _ (weights_of_all (study_of g) g.grid-points) old z) ∙ after-done _ (weights_of_all (study_of g) g.grid-points) old (checked-none g (length old) z)
