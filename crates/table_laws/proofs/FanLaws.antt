-- THE QUESTIONS ON A TABLE: a table passes 7, 23, 24 and 25 exactly where it is a fan, 24 rows of volume 1 around zero whose faces pair up and of which one holds the direction. The four tables in use are. Assumes nothing.
use mathlib.Core.Path.{◌≡◌, refl, sym, subst}
use mathlib.Core.Bool.{true}
use mathlib.Core.List.{List}
use Prim.Native.Nat.{ℕ, ◌<◌}
use native.Mathlib.Omega.{arith}
use lib.IntN.{ℤ}
use lib.ListN.{length}
use borrow.Author.Tests.{le-leb}
use Rattle.list_laws.specs.Lists.{all_below, at}
use Rattle.list_laws.specs.Signed.{within}
use Rattle.list_laws.proofs.BelowLaws.{below_all}
use Rattle.list_laws.proofs.BoolLaws.{and_both}
use Rattle.ask.specs.Ask.{first_no, AllYes}
use Rattle.ask.proofs.AskLaws.{none-no, all_yes}
use Rattle.question_grids.specs.Grids.{are_triples}
use Rattle.question_grids.specs.Tables.{is_table}
use Rattle.tetrahedron_tables.specs.Tables.{table_of, flat}
use Rattle.table_rules.specs.Rows.{rows_of}
use Rattle.table_rules.specs.Questions.{table_questions}
use Rattle.table_laws.specs.Meaning.{row_in, IsUnit, UnitRows, Fan}
use Rattle.table_rules.proofs.RowLaws.{row-is}
use Rattle.table_laws.proofs.RowLaws.{unit-rows, rows-unit}
use Rattle.table_laws.proofs.FaceLaws.{all-paired, paired-all}
use Rattle.table_laws.proofs.SideLaws.{two-rows, paired-two}
use Rattle.table_laws.proofs.ConeLaws.{in-one, one-in}
use Rattle.table_laws.proofs.TableLaws.{table-passes}

units-of : (table : List ℤ) → UnitRows table → (r : ℕ) → r < 24 → IsUnit (row_in (rows_of table) r)
units-of table u r h = subst IsUnit (sym (row-is table r h)) (u.volume r h)

-- such rows pass question 7 too
unit-table : (table : List ℤ) → UnitRows table → is_table table ≡ true
unfolding is_table are_triples within
unit-table table u = and_both (rw u.size refl) (and_both (rw u.size refl) small)
  where
    small : all_below (length table) (λ k. within 4096 (at table k)) ≡ true
    small = below_all (length table) (λ k. within 4096 (at table k)) (λ k h. le-leb _ 4096 (omega (arith, u.small k h)))

module _ (table : List ℤ) where
  pub passes-fan : first_no (table_questions table) ≡ 0 → Fan table
  passes-fan e =
      let yes-all : AllYes (table_questions table) = all_yes (table_questions table) (omega arith, (omega arith, (omega arith, (omega arith, tt)))) e in
      let units : UnitRows table = unit-rows table yes-all.1.0 in
      record {
        units = units;
        faces = λ r h.
            let three : _ = all-paired (rows_of table) yes-all.1.1.0 r h in
            (two-rows (rows_of table) _ _ three.0, two-rows (rows_of table) _ _ three.1, two-rows (rows_of table) _ _ three.2);
        cone = in-one (rows_of table) (units-of table units) yes-all.1.1.1.0;
      }

  pub fan-passes : Fan table → first_no (table_questions table) ≡ 0
  fan-passes f =
      let units : (r : ℕ) → r < 24 → IsUnit (row_in (rows_of table) r) = units-of table f.units in
      none-no (table_questions table) (
        unit-table table f.units,
        (
          rows-unit table f.units,
          (
            paired-all (rows_of table) (λ r h.
                (paired-two (rows_of table) _ _ units (f.faces r h).0, paired-two (rows_of table) _ _ units (f.faces r h).1, paired-two (rows_of table) _ _ units (f.faces r h).2)),
            (one-in (rows_of table) units f.cone, tt),
          ),
        ),
      )

-- the four tables in use
pub table-fan : (t : ℕ) → t < 4 → Fan (flat (table_of t))
table-fan t h = passes-fan (flat (table_of t)) (table-passes t h)
